-- The table row by row: a period more, and all periods.
use Rattle.unit_table.proofs.Common.{◌≡◌, ◌≢◌, ℕ, suc, ◌<◌, ◌≤◌, ◌⊎◌, inl, inr, true, false, Option, Some, None, ℤ, pos}
use Rattle.unit_table.proofs.Common.{◌+ℤ◌, ◌≤ℤ◌, List, length, refl, sym, ap, ◌∙◌, subst, arith, IsTrue, IsFalse}
use Rattle.unit_table.proofs.Common.{ints, cases_lt, MustOff, ThermalUnit, PriceLists, Schedule}
use Rattle.unit_table.proofs.Common.{IsThermalUnit, mark_in, DispatchesMeetingAtPowerContinueAlike, DispatchesAreRuns}
use Rattle.unit_table.proofs.Common.{IsDispatch, net_cost}
use Rattle.unit_table.proofs.Common.{spell_cost, Ended, row_at, cost_at, first_at, before_at, IsFirstRow, AreLimits}
use Rattle.unit_table.proofs.Common.{IsSpell, StopsAtOnce, HasAtMost, IsEntry, IsLeastEntry, IsEnded, IsLatest, Going}
use Rattle.unit_table.proofs.Common.{MayBeOn, AreRunningSpells, IsTableTo, IsRowOf}
use Rattle.unit_table.specs.Tables.{IsFrom}
use Rattle.unit_table.proofs.BeginLaws.{at_most_more, entry_same, at_once_some, at_once_none}
use Rattle.unit_table.proofs.RangeLaws.{dispatch_in_range, before_low}
use Rattle.unit_table.proofs.RowLaws.{cost_from, cost-is, first-is, before-is}
use Rattle.unit_table.proofs.StandInLaws.{one_more_cost}
use Rattle.unit_table.proofs.SumLaws.{sum_from_to-one}

-- ---- entries look at the rows before their first period alone

module _ (g : ThermalUnit) (a b : ℕ → Option ℤ) (f : ℕ) (same : (l : ℕ) → l < f → a l ≡ b l) where
  pub entry_to : (e : ℤ) → IsEntry g a f e → IsEntry g b f e
  entry_to e entry = (entry.0, entry_same g a b f entry.0 e same entry.1)

  back : (l : ℕ) → l < f → b l ≡ a l
  back l low = sym (same l low)

  pub least_entry_to : (last : ℕ) (e : ℤ) → IsLeastEntry g a f last e → IsLeastEntry g b f last e
  least_entry_to last e h = record {
    entry = entry_same g a b f last e same h.entry;
    least = λ d entry. h.least d (entry.0, entry_same g b a f entry.0 d back entry.1);
    earliest = λ k entry. h.earliest k (entry_same g b a f k e back entry);
  }

pub spells_to : (g : ThermalUnit) (π : PriceLists) (limits : ℕ → ℤ) (a b : ℕ → Option ℤ) (live : ℕ →
    Option Going) (t n : ℕ) → ((l : ℕ) → suc l < n → a l ≡ b l) → AreRunningSpells g π limits a live t n →
    AreRunningSpells g π limits b live t n
spells_to g π limits a b live t n same now = record {
  right = λ f r is.
      let h = now.right f r is in
      let low = h.0 in
      let old = h.1 in (
        low,
        record {
          entry = least_entry_to g a b f (λ l less. same l (omega arith)) r.before r.cost old.entry;
          frontier = old.frontier;
          may = old.may;
          order = old.order;
          within = old.within;
        },
      );
  all = λ f e d low may entry run under. now.all f e d low may
      (entry_to g b a f (λ l less. sym (same l (omega arith))) e entry) run under;
}

-- ---- a period more

module _ (g : ThermalUnit) (π : PriceLists) (limits : ℕ → ℤ) (unit : IsThermalUnit g) (t : ℕ) (ends ends' : ℕ →
    Option ℤ) (firsts firsts' lasts lasts' : ℕ → ℕ)
    (table : IsTableTo g π limits (length π.energy) t ends firsts lasts) (within : t < length π.energy)
    (ends_same : (l : ℕ) → l ≢ suc t → ends' l ≡ ends l)
    (firsts_same : (l : ℕ) → l ≢ suc t → firsts' l ≡ firsts l)
    (lasts_same : (l : ℕ) → l ≢ suc t → lasts' l ≡ lasts l) where
  abbrev T : ℕ
  T = length π.energy

  older : (f : ℕ) → f ≤ suc t → (l : ℕ) → l < f → ends' l ≡ ends l
  older f low l less = ends_same l (λ z. omega arith)

  newer : (f : ℕ) → f ≤ suc t → (l : ℕ) → l < f → ends l ≡ ends' l
  newer f low l less = sym (older f low l less)

  idle_more : IsFalse g.on0 → HasAtMost (ends' 0) (pos 0)
  idle_more off = (let h = table.idle off in (h.0, ends_same 0 (λ z. omega arith) ∙ h.1, h.2))

  spell_before : (f l : ℕ) (e : ℤ) (d : Schedule) → l ≤ t → IsSpell g T f l → IsEntry g ends' f e →
      IsDispatch g T f l d → (e +ℤ spell_cost g π f l d) ≤ℤ limits l → HasAtMost (ends' l) (e +ℤ spell_cost g π f l d)
  spell_before f l e d low spell entry dispatch under =
      let order = spell.order in
      let h = table.spell f l e d low spell (entry_to g ends' ends f (older f (omega arith)) e entry)
      dispatch under in
      (h.0, ends_same l (λ z. omega arith) ∙ h.1, h.2)

  sound_before : (l : ℕ) (v : ℤ) → l ≤ t → ends' l ≡ Some v → v ≤ℤ limits l →
      IsFrom g π T (suc T) ends' firsts' lasts' l v
  sound_before l v low is under = elim
      (table.sound l v low (sym (ends_same l (λ z. omega arith)) ∙ is) under) [
        | inl idle ↦ inl idle
        | inr from ↦
            let first = firsts_same l (λ z. omega arith) in
            let last = lasts_same l (λ z. omega arith) in
            let old = from.1 in
            let ended : IsEnded g π T ends' (firsts l) (lasts l) l v = record {
              entry_cost = old.entry_cost;
              entry = least_entry_to g ends ends' (firsts l) (newer (firsts l) (omega arith)) (lasts l)
                  old.entry_cost old.entry;
              spell = old.spell;
              net = old.net;
              least = old.least;
              cost = old.cost;
            } in
            let latest : IsLatest g π T (suc T) ends' (firsts l) l v = λ f k e d less spell entry dispatch cost.
            (let order = spell.order in from.2 f k e d less spell
            (entry_same g ends' ends f k e (older f (omega arith)) entry) dispatch cost) in
            inr (
              omega arith,
              rw first (subst (λ (k : ℕ). IsEnded g π T ends' (firsts l) k l v) (sym last) ended),
              rw first latest,
            )
      ]

  none_more : (l : ℕ) → suc t < l → ends' l ≡ None
  none_more l above = ends_same l (λ z. omega arith) ∙ table.none l (omega arith)

  -- none may be on in the period
  pub table_off : (mark_in g.window (suc t) ≡ MustOff) → ends' (suc t) ≡ None →
      IsTableTo g π limits T (suc t) ends' firsts' lasts'
  table_off mark none_here = record {
    idle = idle_more;
    spell = λ f l e d low spell entry dispatch under. elim (cases_lt l (suc t)) [
      | inl less ↦ spell_before f l e d (omega arith) spell entry dispatch under
      | inr most ↦ let order = spell.order in absurd
          (spell.marks (suc t) (omega arith) (let z : l ≡ suc t = omega arith in omega arith)
          (omega arith) mark)
    ];
    sound = λ l v low is under. elim (cases_lt l (suc t)) [
      | inl less ↦ sound_before l v (omega arith) is under
      | inr most ↦ let z : l ≡ suc t = omega arith in let same = ap ends' z in cc
    ];
    none = none_more;
  }

  module _ (most : ℤ) (limits_right : AreLimits g π most limits) (go : DispatchesMeetingAtPowerContinueAlike)
      (are_runs : DispatchesAreRuns)
      (live : ℕ → Option Going) (now : AreRunningSpells g π limits ends live t (suc (suc t)))
      (row : IsRowOf g π T live (suc (suc t)) (suc t) (ends' (suc t)) (firsts' (suc t)) (lasts' (suc t))) where
    -- a dispatch of a running spell that is as cheap
    record IsReplaced (f : ℕ) (e : ℤ) (d : Schedule) : Type 0 where
      pub other : ℕ
      pub going : Going
      pub on : live other ≡ Some going
      pub low : other < suc (suc t)
      pub dispatch : Schedule
      pub keeps : IsDispatch g T other (suc t) dispatch
      pub spell : IsSpell g T other (suc t)
      pub cheap : (going.cost +ℤ spell_cost g π other (suc t) dispatch) ≤ℤ (e +ℤ spell_cost g π f (suc t) d)
      pub later : (f ≤ other) ⊎
          (((going.cost +ℤ spell_cost g π other (suc t) dispatch) +ℤ pos 1) ≤ℤ (e +ℤ spell_cost g π f (suc t) d))

    replaced : (f : ℕ) (e : ℤ) (d : Schedule) → IsSpell g T f (suc t) → IsEntry g ends f e →
        IsDispatch g T f (suc t) d → (e +ℤ spell_cost g π f (suc t) d) ≤ℤ limits (suc t) → IsReplaced f e d
    replaced f e d spell entry dispatch under =
        let order = spell.order in
        let more = one_more_cost g π f t d order in
        let last = limits_right.step t d within (dispatch_in_range g T f (suc t) d t dispatch order (omega arith)) in
        let run = are_runs g T f t d unit order dispatch in
        let may : MayBeOn g f t = record
        { goes_on = spell.goes_on; marks = λ k one from until. spell.marks k one from (omega arith) } in
        let s = now.all f e d (omega arith) may entry (λ k from until. run k from (omega arith))
        (before_low e (spell_cost g π f t d) (spell_cost g π f (suc t) d) (net_cost g π d (suc t)) (limits t)
        (limits (suc t)) more last under) in
        let running_spell = now.right s.other s.going s.on in
        let low = running_spell.0 in
        let other_spell : s.other ≤ suc t → IsSpell g T s.other (suc t) = λ below. record {
          order = below;
          end = spell.end;
          goes_on = running_spell.1.may.goes_on;
          marks = λ k one from until mark. elim (cases_lt k (suc t)) [
            | inl less ↦ running_spell.1.may.marks k one from (omega arith) mark
            | inr most ↦ let z : k ≡ suc t = omega arith in spell.marks k one (omega arith)
                until mark
          ];
          min_up = λ inside. s.long (suc t) (omega arith) (spell.min_up inside);
        } in
        elim (s.begun) [
          | inl begun ↦
              let j = go g π f s.other t s.going.function d s.value unit order begun within
              running_spell.1.frontier s.there
              dispatch in
              record {
                other = s.other;
                going = s.going;
                on = s.on;
                low = low;
                dispatch = j.dispatch;
                keeps = j.keeps;
                spell = other_spell (omega arith);
                cheap = omega (arith, ints);
                later = elim (s.later) [
                  | inl from ↦ inl from
                  | inr less ↦ inr (omega (arith, ints))
                ];
              }
          | inr same ↦
              let bound = running_spell.1.entry.least e (rw same entry) in
              let cost = ap (λ (f : ℕ). spell_cost g π f (suc t) d) same in
              record {
                other = s.other;
                going = s.going;
                on = s.on;
                low = low;
                dispatch = d;
                keeps = rw same dispatch;
                spell = rw same spell;
                cheap = omega (arith, ints);
                later = inl (omega arith);
              }
        ]

    spell_here : (f : ℕ) (e : ℤ) (d : Schedule) → IsSpell g T f (suc t) → IsEntry g ends f e →
        IsDispatch g T f (suc t) d → (e +ℤ spell_cost g π f (suc t) d) ≤ℤ limits (suc t) →
        HasAtMost (ends' (suc t)) (e +ℤ spell_cost g π f (suc t) d)
    spell_here f e d spell entry dispatch under =
        let r = replaced f e d spell entry dispatch under in
        at_most_more (ends' (suc t)) (r.going.cost +ℤ spell_cost g π r.other (suc t) r.dispatch)
        (e +ℤ spell_cost g π f (suc t) d) (row.most r.other r.going r.dispatch r.low r.on r.spell r.keeps) r.cheap

    latest_here : (v : ℤ) → ends' (suc t) ≡ Some v → v ≤ℤ limits (suc t) → (f : ℕ) (e : ℤ) (d : Schedule) →
        IsSpell g T f (suc t) → IsEntry g ends f e → IsDispatch g T f (suc t) d →
        (e +ℤ spell_cost g π f (suc t) d) ≡ v → f ≤ firsts' (suc t)
    latest_here v is under f e d spell entry dispatch cost =
        let r = replaced f e d spell entry dispatch (omega (arith, ints)) in
        let here = r.going.cost +ℤ spell_cost g π r.other (suc t) r.dispatch in
        let h = row.most r.other r.going r.dispatch r.low r.on r.spell r.keeps in
        let value : h.0 ≡ v = (cc) in
        elim (r.later) [
          | inr less ↦ absurd (omega (arith, ints))
          | inl from ↦
              let equal : v ≡ here = omega (arith, ints) in
              let latest = row.latest r.other r.going r.dispatch r.low r.on r.spell r.keeps (cc) in
              omega arith
        ]

    sound_here : (v : ℤ) → ends' (suc t) ≡ Some v → v ≤ℤ limits (suc t) →
        IsFrom g π T (suc T) ends' firsts' lasts' (suc t) v
    sound_here v is under =
        let h = row.sound v is in
        let r = h.0 in
        let running_spell = (now.right (firsts' (suc t)) r h.1).1 in
        let order = h.4.order in
        let ended : IsEnded g π T ends' (firsts' (suc t)) r.before (suc t) v = record {
          entry_cost = r.cost;
          entry = least_entry_to g ends ends' (firsts' (suc t)) (newer (firsts' (suc t)) order) r.before r.cost
              running_spell.entry;
          spell = h.4;
          net = h.5.0;
          least = h.5.1;
          cost = h.5.2;
        } in
        inr (
          omega arith,
          rw h.3 at ended,
          λ f k e d low spell entry dispatch cost.
              (let below = spell.order in latest_here v is under f e d spell
              (k, entry_same g ends' ends f k e (older f below) entry) dispatch cost),
        )

    pub table_on : IsTableTo g π limits T (suc t) ends' firsts' lasts'
    table_on = record {
      idle = idle_more;
      spell = λ f l e d low spell entry dispatch under. elim (cases_lt l (suc t)) [
        | inl less ↦ spell_before f l e d (omega arith) spell entry dispatch under
        | inr most ↦
            let z : suc t ≡ l = omega arith in
            subst (λ (l : ℕ). IsSpell g T f l → IsDispatch g T f l d → (e +ℤ spell_cost g π f l d) ≤ℤ limits l →
            HasAtMost (ends' l) (e +ℤ spell_cost g π f l d)) z
            (λ spell dispatch under.
            (let order = spell.order in spell_here f e d spell (entry_to g ends' ends f (older f order) e entry)
            dispatch under)) spell dispatch under
      ];
      sound = λ l v low is under. elim (cases_lt l (suc t)) [
        | inl less ↦ sound_before l v (omega arith) is under
        | inr most ↦
            let z : suc t ≡ l = omega arith in
            subst (λ (l : ℕ). ends' l ≡ Some v → v ≤ℤ limits l →
            IsFrom g π T (suc T) ends' firsts' lasts' l v) z (sound_here v) is under
      ];
      none = none_more;
    }

-- ---- no period

module _ (g : ThermalUnit) (π : PriceLists) (some : 1 ≤ length π.energy) (rows : List (Option Ended))
    (first : IsFirstRow g (row_at rows 0)) (rest : (l : ℕ) → 1 ≤ l → row_at rows l ≡ None) where
  zero_row : (e : Ended) → row_at rows 0 ≡ Some e → (e ≡ record { cost = pos 0; first = 0; before = 0 }) ×
      (IsTrue g.on0 → StopsAtOnce g × (g.min_up ≤ g.up0))
  zero_row e is = subst (IsFirstRow g) is first

  zero_cost : (e : Ended) → row_at rows 0 ≡ Some e → cost_at rows 0 ≡ Some (pos 0)
  zero_cost e is = cost-is rows 0 e is ∙ ap (λ (e : Ended). Some e.cost) (zero_row e is).0

  entry_zero : (ends : ℕ → Option ℤ) (e : ℤ) → IsEntry g ends 0 e → e ≡ pos 0
  entry_zero ends e entry = elim (entry.1) [
    | inl h ↦ h.1
    | inr h ↦ absurd (omega arith)
  ]

  pub least_zero : (ends : ℕ → Option ℤ) → IsLeastEntry g ends 0 0 (pos 0)
  least_zero ends = record {
    entry = inl (refl, refl);
    least = λ d entry. (let z = entry_zero ends d entry in omega (arith, ints));
    earliest = λ k entry. omega arith;
  }

  -- where something ends before period 1, it costs nothing
  spell_zero : (e : ℤ) (d : Schedule) → IsSpell g (length π.energy) 0 0 → IsEntry g (cost_at rows) 0 e →
      IsDispatch g (length π.energy) 0 0 d → HasAtMost (cost_at rows 0) (e +ℤ spell_cost g π 0 0 d)
  spell_zero e d spell entry dispatch =
      let z = entry_zero (cost_at rows) e entry in
      let cost : spell_cost g π 0 0 d ≡ pos 0 = sum_from_to-one (net_cost g π d) 0 in
      elim (row_at rows 0) as (λ o. row_at rows 0 ≡ o → HasAtMost (cost_at rows 0) (e +ℤ spell_cost g π 0 0 d)) [
        | Some r ↦ λ is. (pos 0, zero_cost r is, omega (arith, ints))
        | None ↦ λ is.
            let h : IsFirstRow g None = rw is at first in
            let up = spell.min_up (omega arith) in
            absurd (at_once_none g π (length π.energy) some (λ stops. h.1 stops (omega arith)) d dispatch)
      ] refl

  sound_zero : (v : ℤ) → cost_at rows 0 ≡ Some v → IsFrom g π (length π.energy) (suc (length π.energy)) (cost_at rows)
      (first_at rows) (before_at rows) 0 v
  sound_zero v is =
      let r = cost_from rows 0 v is in
      let h = zero_row r.0 r.1 in
      let cost : r.0.cost ≡ pos 0 = cc in
      let value : v ≡ pos 0 = cc in
      let row : row_at rows 0 ≡ Some (record { cost = pos 0; first = 0; before = 0 }) = cc in
      let first_is = first-is rows 0 (record { cost = pos 0; first = 0; before = 0 }) row in
      let before_is = before-is rows 0 (record { cost = pos 0; first = 0; before = 0 }) row in
      elim (g.on0) as (λ b. g.on0 ≡ b → IsFrom g π (length π.energy) (suc (length π.energy)) (cost_at rows)
      (first_at rows) (before_at rows) 0 v) [
        | false ↦ λ off. inl (off, refl, value)
        | true ↦ λ on.
            let may = h.1 on in
            let ended : IsEnded g π (length π.energy) (cost_at rows) 0 0 0 v = record {
              entry_cost = pos 0;
              entry = least_zero (cost_at rows);
              spell = record {
                order = omega arith;
                end = omega arith;
                goes_on = λ _. on;
                marks = λ t one from until mark. absurd (omega arith);
                min_up = λ inside. omega arith;
              };
              net = pos 0;
              least = at_once_some g π (length π.energy) may.0;
              cost = omega (arith, ints);
            } in
            inr (
              omega arith,
              rw first_is
                  (subst (λ (k : ℕ). IsEnded g π (length π.energy) (cost_at rows) 0 k 0 v) (sym before_is) ended),
              λ f k e d low spell entry dispatch cost. (omega arith),
            )
      ] refl

  pub table_begun : (limits : ℕ → ℤ) → IsTableTo g π limits (length π.energy) 0 (cost_at rows) (first_at rows)
      (before_at rows)
  table_begun limits = record {
    idle = λ off. elim (row_at rows 0) as (λ o. row_at rows 0 ≡ o → HasAtMost (cost_at rows 0) (pos 0)) [
      | Some r ↦ λ is. (pos 0, zero_cost r is, omega (arith, ints))
      | None ↦ λ is. (let h : IsFirstRow g None = rw is at first in cc)
    ] refl;
    spell = λ f l e d low spell entry dispatch under.
        let order = spell.order in
        let z : 0 ≡ l = omega arith in
        let y : 0 ≡ f = omega arith in
        subst (λ (f : ℕ). IsSpell g (length π.energy) f l → IsEntry g (cost_at rows) f e →
        IsDispatch g (length π.energy) f l d → HasAtMost (cost_at rows l) (e +ℤ spell_cost g π f l d)) y
        (subst (λ (l : ℕ). IsSpell g (length π.energy) 0 l → IsEntry g (cost_at rows) 0 e →
        IsDispatch g (length π.energy) 0 l d → HasAtMost (cost_at rows l) (e +ℤ spell_cost g π 0 l d)) z
        (spell_zero e d))
        spell entry dispatch;
    sound = λ l v low is under.
        let z : 0 ≡ l = omega arith in
        subst (λ (l : ℕ). cost_at rows l ≡ Some v → IsFrom g π (length π.energy) (suc (length π.energy)) (cost_at rows)
        (first_at rows) (before_at rows) l v) z (sound_zero v) is;
    none = λ l above. (let none = rest l above in cc);
  }
