-- The table before any start, and with one more first period.
use Rattle.test_units.proofs.Common.{◌≡◌, ℕ, zero, suc, ◌+◌, ◌≤◌, inl, inr, Option, Some, None, ℤ, pos, ◌+ℤ◌, List}
use Rattle.test_units.proofs.Common.{length, refl, sym, ap, ◌∙◌, subst, arith, IsTrue, IsFalse, option_map, ints}
use Rattle.test_units.proofs.Common.{ThermalUnit, PriceLists, IsSpellAnswer, Ended, IsSpell, StopsAtOnce, HasAtMost}
use Rattle.test_units.proofs.Common.{IsEntry, IsLeastEntry, IsTable, IsUpdate, StopsAtOnceCostNothing, row_at, cost_at}
use Rattle.test_units.proofs.Common.{first_at, before_at, AreWithin, IsFilled, IsAdded, IsFirstRow}
use Rattle.test_units.proofs.RowLaws.{cost_from}
use Rattle.unit_table.proofs.RowLaws.{cost-is, first-is, before-is}
use Rattle.test_units.proofs.TableLaws.{table_none, table_skip, table_more}

module _ (g : ThermalUnit) (π : PriceLists) where
  -- ---- one more first period

  module _ (n : ℕ) (rows : List (Option Ended)) (filled : IsFilled g π n rows) where
    pub filled_skip : ((e : ℤ) → IsEntry g (cost_at rows) n e → ⊥) → IsFilled g π (suc n) rows
    filled_skip none = record {
      table = table_skip g π (length π.energy) n (first_at rows) (before_at rows) (cost_at rows) filled.table
          (λ e l entry spell. none e entry);
      within = filled.within;
    }

    pub filled_more : (last : ℕ) (e : ℤ) (new : List (Option Ended)) → 1 ≤ n → IsLeastEntry g (cost_at rows) n last e →
        IsAdded g π n last e rows new → IsFilled g π (suc n) new
    filled_more last e new one least added = record {
      table = table_more g π (length π.energy) n (first_at rows) (before_at rows) (cost_at rows) filled.table last e
          least added.nets (cost_at new) (first_at new) (before_at new)
          (λ l spell. (added.right l (omega (arith, one)) spell)) added.update;
      within = added.within;
    }

  module _ (rows : List (Option Ended)) (first : IsFirstRow g (row_at rows 0))
      (rest : (l : ℕ) → 1 ≤ l → row_at rows l ≡ None) (within : AreWithin rows) where
    row_of : (e : Ended) → row_at rows 0 ≡ Some e →
        (e ≡ record { cost = pos 0; first = 0; before = 0 }) × (IsTrue g.on0 → StopsAtOnce g × (g.min_up ≤ g.up0))
    row_of e is = subst (IsFirstRow g) is first

    -- each cost is that of row 0, which is 0
    only_first : (l : ℕ) (v : ℤ) → cost_at rows l ≡ Some v →
        (l ≡ 0) × (v ≡ pos 0) × (row_at rows 0 ≡ Some (record { cost = pos 0; first = 0; before = 0 })) ×
        (IsTrue g.on0 → StopsAtOnce g × (g.min_up ≤ g.up0))
    only_first zero v is =
        let r = cost_from rows 0 v is in
        let h = row_of r.0 r.1 in
        let cost = ap (λ (e : Ended). e.cost) h.0 in
        (refl, sym r.2 ∙ cost, r.1 ∙ ap Some h.0, h.1)
    only_first (suc k) v is =
        let r = cost_from rows (suc k) v is in
        let none = rest (suc k) (omega arith) in
        let row = r.1 in
        cc

    zero_row : IsFalse g.on0 → row_at rows 0 ≡ Some (record { cost = pos 0; first = 0; before = 0 })
    zero_row off = elim (row_at rows 0) as (λ o. row_at rows 0 ≡ o →
        row_at rows 0 ≡ Some (record { cost = pos 0; first = 0; before = 0 })) [
          | None ↦ λ is. (let h : IsFirstRow g None = subst (IsFirstRow g) is first in cc)
          | Some e ↦ λ is. is ∙ ap Some (row_of e is).0
        ] refl

    no_cost : (l : ℕ) → 1 ≤ l → cost_at rows l ≡ None
    no_cost l one = ap (option_map (λ (e : Ended). e.cost)) (rest l one)

    pub filled_off : IsFalse g.on0 → IsFilled g π 1 rows
    filled_off off =
        let idle = cost-is rows 0 (record { cost = pos 0; first = 0; before = 0 }) (zero_row off) in
        let none : IsTable g π (length π.energy) 0 (cost_at rows) (first_at rows) (before_at rows) =
        table_none g π (length π.energy) (cost_at rows) (first_at rows) (before_at rows) (λ _. idle) (λ on. cc)
        no_cost in
        record {
          table = table_skip g π (length π.energy) 0 (first_at rows) (before_at rows) (cost_at rows) none
              (λ e l entry spell. (let on = spell.goes_on refl in cc));
          within = within;
        }

    module _ (at_once : StopsAtOnceCostNothing) (on0 : IsTrue g.on0) (some : 1 ≤ length π.energy)
        (new : List (Option Ended)) (added : IsAdded g π 0 0 (pos 0) rows new) where
      nets : ℕ → Option ℤ
      nets zero = cost_at rows 0
      nets (suc k) = added.nets (suc k)

      right : (l : ℕ) → IsSpell g (length π.energy) 0 l → IsSpellAnswer g π (length π.energy) 0 l (nets l)
      unfolding nets
      right zero spell =
          elim (row_at rows 0) as (λ o. row_at rows 0 ≡ o →
          IsSpellAnswer g π (length π.energy) 0 0 (option_map (λ (e : Ended). e.cost) o)) [
            | None ↦ λ is.
                let h : IsFirstRow g None = subst (IsFirstRow g) is first in
                let up = spell.min_up (omega (arith, some)) in
                (at_once g π (length π.energy) some).1 (λ stops. h.1 stops (omega (arith, up)))
            | Some e ↦ λ is.
                let h = row_of e is in
                let cost : pos 0 ≡ e.cost = sym (ap (λ (e : Ended). e.cost) h.0) in
                subst (λ (v : ℤ). IsSpellAnswer g π (length π.energy) 0 0 (Some v)) cost
                ((at_once g π (length π.energy) some).0 (h.1 on0).0)
          ] refl
      right (suc k) spell = added.right (suc k) (omega arith) spell

      spell_at_once : g.min_up ≤ g.up0 → IsSpell g (length π.energy) 0 0
      spell_at_once up = record {
        order = omega arith;
        end = omega arith;
        goes_on = λ _. on0;
        marks = λ t one from until mark. absurd (omega (arith, one, until));
        min_up = λ inside. omega (arith, up);
      }

      adds : (l : ℕ) (c : ℤ) → IsSpell g (length π.energy) 0 l → nets l ≡ Some c →
          HasAtMost (cost_at new l) (pos 0 +ℤ c)
      unfolding nets
      adds zero c spell net = let r = added.update.keeps 0 c net in (r.0, r.1, omega (arith, ints))
      adds (suc k) c spell net = added.update.adds (suc k) c spell net

      abbrev From : ℕ → ℤ → Type 0
      From l v = (first_at new l ≡ 0) × (before_at new l ≡ 0) × IsSpell g (length π.energy) 0 l ×
          ((c : ℤ) × (nets l ≡ Some c) × (v ≡ pos 0 +ℤ c))

      sound : (l : ℕ) (v : ℤ) → cost_at new l ≡ Some v → From l v
      unfolding nets
      sound zero v is = elim (added.update.sound 0 v is) [
        | inl h ↦
            let only = only_first 0 v h.0 in
            let row = only.2 in
            let e : Ended = record { cost = pos 0; first = 0; before = 0 } in (
              h.1 ∙ first-is rows 0 e row,
              h.2 ∙ before-is rows 0 e row,
              spell_at_once (only.3 on0).1,
              (v, h.0, omega (arith, ints)),
            )
        | inr h ↦ let none = added.none in cc
      ]
      sound (suc k) v is = elim (added.update.sound (suc k) v is) [
        | inl h ↦ let none = no_cost (suc k) (omega arith) in cc
        | inr h ↦ h
      ]

      nothing : ℕ → Option ℤ
      nothing l = None

      zeros : ℕ → ℕ
      zeros l = 0

      none_before : IsTable g π (length π.energy) 0 nothing zeros zeros
      unfolding nothing
      none_before = table_none g π (length π.energy) nothing zeros zeros (λ off. cc) (λ _. refl) (λ l one. refl)

      least_before : IsLeastEntry g nothing 0 0 (pos 0)
      least_before = record {
        entry = inl (refl, refl);
        least = λ d entry. elim (entry.1) [
          | inl h ↦ omega (arith, ints)
          | inr h ↦ absurd (omega arith)
        ];
        earliest = λ k entry. omega arith;
      }

      update : IsUpdate g (length π.energy) 0 0 (pos 0) nets nothing (cost_at new) zeros (first_at new) zeros
          (before_at new)
      unfolding nothing
      update = record {
        same = λ l low. absurd (omega (arith, low));
        keeps = λ l v is. cc;
        adds = adds;
        takes = λ l c spell net is. (sound l (pos 0 +ℤ c) is).0;
        sound = λ l v is. inr (sound l v is);
      }

      pub filled_on : IsFilled g π 1 new
      filled_on = record {
        table = table_more g π (length π.energy) 0 zeros zeros nothing none_before 0 (pos 0) least_before nets
            (cost_at new) (first_at new) (before_at new) right update;
        within = added.within;
      }
