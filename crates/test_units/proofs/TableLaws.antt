-- One more first period in the table.
use Rattle.test_units.proofs.Common.{◌≡◌, ℕ, suc, ◌<◌, ◌≤◌, inl, inr, true, false, Option, Some, None, ℤ, pos, ◌+ℤ◌}
use Rattle.test_units.proofs.Common.{◌≤ℤ◌, refl, sym, ap, ◌∙◌, subst, arith, IsTrue, IsFalse, ints, cases_lt}
use Rattle.test_units.proofs.Common.{ThermalUnit, PriceLists, Schedule, IsDispatch, IsSpellAnswer, spell_cost, IsSpell}
use Rattle.test_units.proofs.Common.{HasAtMost, IsEntryAfter, IsEntry, IsLeastEntry, IsEnded, IsLatest, IsTable}
use Rattle.test_units.proofs.Common.{IsUpdate}
use Rattle.unit_table.specs.Tables.{IsFrom}

pub at_most_more : (o : Option ℤ) (u v : ℤ) → HasAtMost o u → u ≤ℤ v → HasAtMost o v
at_most_more o u v h low = (h.0, h.1, omega (arith, ints, low))

module _ (g : ThermalUnit) where
  -- an entry looks at the table below its first period alone
  pub entry_same : (a b : ℕ → Option ℤ) (f last : ℕ) (e : ℤ) → ((l : ℕ) → l < f → a l ≡ b l) →
      IsEntryAfter g a f last e → IsEntryAfter g b f last e
  entry_same a b f last e same (inl h) = inl h
  entry_same a b f last e same (inr h) =
      let first = h.first in
      inr (record {
        before = h.before;
        first = first;
        value = h.value;
        ended =
            sym (same last (omega (arith, first))) ∙ h.ended;
        gap = h.gap;
        cost = h.cost;
      })

  module _ (π : PriceLists) (periods n : ℕ) (firsts lasts : ℕ → ℕ) (old : ℕ → Option ℤ)
      (table : IsTable g π periods n old firsts lasts) where
    latest_skip : ((e : ℤ) (l : ℕ) → IsEntry g old n e → IsSpell g periods n l → ⊥) → (first l : ℕ) (v : ℤ) →
        IsLatest g π periods n old first l v → IsLatest g π periods (suc n) old first l v
    latest_skip none first l v latest f last e d low spell entry dispatch cost = elim (cases_lt f n) [
      | inl less ↦ latest f last e d less spell entry dispatch cost
      | inr most ↦ let z : f ≡ n = omega (arith, most, low) in
          absurd (none e l (subst (λ (f : ℕ). IsEntry g old f e) z (last, entry))
          (subst (λ (f : ℕ). IsSpell g periods f l) z spell))
    ]

    -- no spell may begin with n
    pub table_skip : ((e : ℤ) (l : ℕ) → IsEntry g old n e → IsSpell g periods n l → ⊥) →
        IsTable g π periods (suc n) old firsts lasts
    table_skip none = record {
      complete = record {
        idle = table.complete.idle;
        spell = λ f l e d low spell entry dispatch. elim (cases_lt f n) [
          | inl less ↦ table.complete.spell f l e d less spell entry dispatch
          | inr most ↦ let z : f ≡ n = omega (arith, most, low) in
              absurd (none e l (subst (λ (f : ℕ). IsEntry g old f e) z entry)
              (subst (λ (f : ℕ). IsSpell g periods f l) z spell))
        ];
      };
      sound = λ l v is. elim (table.sound l v is) [
        | inl h ↦ inl h
        | inr h ↦ inr ((let low = h.0 in omega (arith, low)), h.1, latest_skip none (firsts l) l v h.2)
      ];
    }

    module _ (last : ℕ) (e : ℤ) (least : IsLeastEntry g old n last e) (nets new : ℕ → Option ℤ) (firsts' lasts' : ℕ → ℕ)
        (right : (l : ℕ) → IsSpell g periods n l → IsSpellAnswer g π periods n l (nets l))
        (update : IsUpdate g periods n last e nets old new firsts firsts' lasts lasts') where
      newer : (f k : ℕ) (d : ℤ) → f ≤ n → IsEntryAfter g old f k d → IsEntryAfter g new f k d
      newer f k d low = entry_same old new f k d (λ l less. sym (update.same l (omega (arith, less, low))))

      older : (f k : ℕ) (d : ℤ) → f ≤ n → IsEntryAfter g new f k d → IsEntryAfter g old f k d
      older f k d low = entry_same new old f k d (λ l less. update.same l (omega (arith, less, low)))

      keeps : (l : ℕ) (v : ℤ) → HasAtMost (old l) v → HasAtMost (new l) v
      keeps l v h = at_most_more (new l) h.0 v (update.keeps l h.0 h.1) h.2

      added : (l : ℕ) (e' : ℤ) (d : Schedule) → IsSpell g periods n l → IsEntry g old n e' →
          IsDispatch g periods n l d → HasAtMost (new l) (e' +ℤ spell_cost g π n l d)
      added l e' d spell entry dispatch =
          let below = least.least e' entry in
          elim (nets l) as (λ o. nets l ≡ o → IsSpellAnswer g π periods n l o →
          HasAtMost (new l) (e' +ℤ spell_cost g π n l d)) [
            | None ↦ λ is none. absurd (none d dispatch)
            | Some c ↦ λ is h. let low = h.least d dispatch in
                at_most_more (new l) (e +ℤ c) (e' +ℤ spell_cost g π n l d) (update.adds l c spell is)
                (omega (arith, ints, below, low))
          ] refl (right l spell)

      entry_newer : (f k : ℕ) (d : ℤ) → f ≤ n → IsLeastEntry g old f k d → IsLeastEntry g new f k d
      entry_newer f k d low h = record {
        entry = newer f k d low h.entry;
        least = λ d' entry. h.least d' (entry.0, older f entry.0 d' low entry.1);
        earliest = λ k' entry. h.earliest k' (older f k' d low entry);
      }

      ended_newer : (f k l : ℕ) (v : ℤ) → f ≤ n → IsEnded g π periods old f k l v → IsEnded g π periods new f k l v
      ended_newer f k l v low h = record {
        entry_cost = h.entry_cost;
        entry = entry_newer f k h.entry_cost low h.entry;
        spell = h.spell;
        net = h.net;
        least = h.least;
        cost = h.cost;
      }

      net_least : (l : ℕ) (c : ℤ) → IsSpell g periods n l → nets l ≡ Some c → IsSpellAnswer g π periods n l (Some c)
      net_least l c spell is = subst (IsSpellAnswer g π periods n l) is (right l spell)

      -- a spell that begins with n and costs what the row has is the one that the row names
      latest_here : (l k : ℕ) (v e' : ℤ) (d : Schedule) → new l ≡ Some v → IsSpell g periods n l →
          IsEntryAfter g old n k e' → IsDispatch g periods n l d → (e' +ℤ spell_cost g π n l d) ≡ v → firsts' l ≡ n
      latest_here l k v e' d is spell entry dispatch cost =
          let below = least.least e' (k, entry) in
          elim (nets l) as (λ o. nets l ≡ o → IsSpellAnswer g π periods n l o → firsts' l ≡ n) [
            | None ↦ λ net none. absurd (none d dispatch)
            | Some c ↦ λ net h.
                let low = h.least d dispatch in
                let r = update.adds l c spell net in
                let same : r.0 ≡ v = (let a = r.1 in cc) in
                let v_is : v ≡ e +ℤ c = omega (arith, ints, same, low, below, cost) in
                update.takes l c spell net (is ∙ ap Some v_is)
          ] refl (right l spell)

      latest_kept : (l : ℕ) (v : ℤ) → new l ≡ Some v → firsts' l ≡ firsts l →
          IsLatest g π periods n old (firsts l) l v → IsLatest g π periods (suc n) new (firsts' l) l v
      latest_kept l v is first latest f k e' d low spell entry dispatch cost = elim (cases_lt f n) [
        | inl less ↦ let h = latest f k e' d less spell (older f k e' (omega (arith, less)) entry) dispatch cost in
            omega (arith, h, first)
        | inr most ↦
            let z : n ≡ f = omega (arith, most, low) in
            subst (λ (f : ℕ). IsSpell g periods f l → IsEntryAfter g new f k e' → IsDispatch g periods f l d →
            (e' +ℤ spell_cost g π f l d) ≡ v → f ≤ firsts' l) z
            (λ spell entry dispatch cost.
            (let named = latest_here l k v e' d is spell (older n k e' (omega arith) entry) dispatch cost in
            omega (arith, named))) spell entry dispatch cost
      ]

      pub table_more : IsTable g π periods (suc n) new firsts' lasts'
      table_more = record {
        complete = record {
          idle = λ off. keeps 0 (pos 0) (table.complete.idle off);
          spell = λ f l e' d low spell entry dispatch. elim (cases_lt f n) [
            | inl less ↦ keeps l (e' +ℤ spell_cost g π f l d)
                (table.complete.spell f l e' d less spell (entry.0, older f entry.0 e' (omega (arith, less)) entry.1)
                dispatch)
            | inr most ↦
                let z : n ≡ f = omega (arith, most, low) in
                subst (λ (f : ℕ). IsSpell g periods f l → IsEntry g new f e' → IsDispatch g periods f l d →
                HasAtMost (new l) (e' +ℤ spell_cost g π f l d)) z
                (λ spell entry dispatch. added l e' d spell (entry.0, older n entry.0 e' (omega arith) entry.1)
                dispatch) spell entry dispatch
          ];
        };
        sound = λ l v is. elim (update.sound l v is) [
          | inl h ↦ elim (table.sound l v h.0) [
            | inl idle ↦ inl idle
            | inr from ↦
                let low = from.0 in
                let first = h.1 in
                inr (
                  omega (arith, low, first),
                  subst (λ (f : ℕ). IsEnded g π periods new f (lasts' l) l v) (sym first)
                      (subst (λ (k : ℕ). IsEnded g π periods new (firsts l) k l v) (sym h.2)
                      (ended_newer (firsts l) (lasts l) l v (omega (arith, low)) from.1)),
                  latest_kept l v is first from.2,
                )
          ]
          | inr h ↦
              let first = h.0 in
              let c = h.3 in
              inr (
                omega (arith, first),
                subst (λ (f : ℕ). IsEnded g π periods new f (lasts' l) l v) (sym first)
                    (subst (λ (k : ℕ). IsEnded g π periods new n k l v) (sym h.1)
                    (record {
                      entry_cost = e;
                      entry = entry_newer n last e (omega arith) least;
                      spell = h.2;
                      net = c.0;
                      least = net_least l c.0 h.2 c.1;
                      cost = c.2;
                    })),
                λ f k e' d low spell entry dispatch cost. omega (arith, low, first),
              )
        ];
      }

-- the table before any first period
pub table_none : (g : ThermalUnit) (π : PriceLists) (periods : ℕ) (ends : ℕ → Option ℤ) (firsts lasts : ℕ → ℕ) →
    (IsFalse g.on0 → ends 0 ≡ Some (pos 0)) → (IsTrue g.on0 → ends 0 ≡ None) → ((l : ℕ) → 1 ≤ l → ends l ≡ None) →
    IsTable g π periods 0 ends firsts lasts
table_none g π periods ends firsts lasts idle none rest = record {
  complete = record {
    idle = λ off. (pos 0, idle off, omega (arith, ints));
    spell = λ f l e d low spell entry dispatch. absurd (omega (arith, low));
  };
  sound = λ l v is. elim (cases_lt 0 l) [
    | inl more ↦ let a = rest l (omega (arith, more)) in cc
    | inr most ↦
        let z : l ≡ 0 = omega (arith, most) in
        let here = ap ends (sym z) ∙ is in
        elim (g.on0) as (λ b. g.on0 ≡ b → IsFrom g π periods 0 ends firsts lasts l v) [
          | true ↦ λ on. (let a = none on in cc)
          | false ↦ λ off. inl (off, z, (let a = idle off in cc))
        ] refl
  ];
}
