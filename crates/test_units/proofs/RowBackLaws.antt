-- A row of the whole table, and what backtracking from it needs to know.
use Rattle.test_units.proofs.Common.{◌≡◌, ℕ, suc, ◌<◌, ◌≤◌, inl, inr, Option, Some, ℤ, pos, ◌+◌, ◌≤ℤ◌, List, length, ap}
use Rattle.test_units.proofs.Common.{◌∙◌, refl, Bool, cond, true, false, arith, ints, IsTrue, IsFalse, ThermalUnit}
use Rattle.test_units.proofs.Common.{PriceLists, Schedule, power_in, reserve_in, IsIdle, IsLeastSpell, off_time}
use Rattle.unit_program.specs.Backs.{IsWritten}
use Rattle.test_units.proofs.Common.{IsWrittenBack, IsFilled, Ended, row_at, cost_at, first_at, before_at}
use Rattle.test_units.proofs.Common.{IsEnded, IsLatest, IsStarted, IsEntryAfter}
use Rattle.unit_table.specs.Tables.{IsFrom}
use Rattle.unit_program.proofs.BackLaws.{dispatch-same, spell_cost-same, first_dispatch-same, same_in, same_then}
use Rattle.unit_program.proofs.BackLaws.{idle_same, idle_part, zero_off_written}
use Rattle.unit_program.proofs.BuildLaws.{up_to_idle, up_to_first, up_to_next}
use Rattle.unit_program.proofs.TieLaws.{first_alone, first_after}
use Rattle.unit_table.proofs.RowLaws.{cost-is, first-is, before-is}

module _ (g : ThermalUnit) where
  -- a start in period 1 is of a unit that is off before it
  starts_off : (ends : ℕ → Option ℤ) (last : ℕ) (e : ℤ) → 1 ≤ g.min_down → IsEntryAfter g ends 1 last e →
      IsFalse g.on0
  starts_off ends last e some entry = elim entry [
    | inl h ↦ let none = h.0 in absurd (omega (arith, none))
    | inr st ↦
        let z : last ≡ 0 = omega arith in
        let k : st.before ≡ 0 = omega arith in
        let time : off_time g last st.before ≡ off_time g 0 0 = ap (λ (l : ℕ). off_time g l st.before) z ∙
        ap (off_time g 0) k in
        elim (g.on0) as (λ b. g.on0 ≡ b → IsFalse b) [
          | false ↦ λ off. refl
          | true ↦ λ on. (let none : off_time g 0 0 ≡ 0 = ap (λ (b : Bool). cond b 0 (g.down0 + 0)) on in absurd
              (omega (arith, none, time, some)))
        ] refl
  ]

-- what backtracking needs to know of a row that names a spell
pub record IsRowBack (g : ThermalUnit) (π : PriceLists) (rows : List (Option Ended)) (l : ℕ) (e : Ended) : Type 0 where
  pub order : e.first ≤ l
  pub goes_on : e.first ≡ 0 → IsTrue g.on0
  pub starts : e.first ≡ 1 → IsFalse g.on0
  pub least : (net : ℤ) × IsLeastSpell g π (length π.energy) e.first l net
  pub only : (a b : Schedule) → e.first ≡ 0 → IsWritten g π (length π.energy) e.first l a b →
      IsWrittenBack g π rows l a b
  pub before_less : 1 ≤ e.first → e.before < l
  pub before_ended : 1 ≤ e.first → (v : ℤ) × (cost_at rows e.before ≡ Some v)
  pub before_idle : (a b : Schedule) → 1 ≤ e.first → IsWritten g π (length π.energy) e.first l a b → IsIdle g a 0 l →
      IsIdle g b 0 e.before
  pub rest : (a b c : Schedule) → 1 ≤ e.first → IsIdle g a 0 l → IsWritten g π (length π.energy) e.first l a b →
      IsWrittenBack g π rows e.before b c → IsWrittenBack g π rows l a c

module _ (g : ThermalUnit) (π : PriceLists) (rows : List (Option Ended)) (l : ℕ)
    (ramp_up : pos 0 ≤ℤ g.ramp_up) (ramp_down : pos 0 ≤ℤ g.ramp_down) (some_down : 1 ≤ g.min_down)
    (filled : IsFilled g π (suc (length π.energy)) rows) where
  abbrev ends : ℕ → Option ℤ
  ends = cost_at rows

  abbrev T : ℕ
  T = length π.energy

  from : (v : ℤ) → cost_at rows l ≡ Some v → IsFrom g π T (suc T) ends (first_at rows) (before_at rows) l v
  from v is = filled.table.sound l v is

  -- off since before the horizon
  pub back_off : (a : Schedule) → l ≡ 0 → IsFalse g.on0 → IsWrittenBack g π rows l a a
  back_off a none off = record {
    up_to = λ v is. elim (from v is) [
      | inl z ↦ rw (none, z.2) (up_to_idle g π T a ramp_up ramp_down off)
      | inr h ↦ let on = h.1.spell.goes_on (let order = h.1.spell.order in omega arith) in cc
    ];
    first = λ v is other rival. record {
      flag = λ t low agree on. let z : t ≡ 0 = omega arith in rw z (rw z at on);
      power = λ flags k low here agree. absurd (omega arith);
      reserve = λ flags powers k low here. absurd (omega arith);
    };
    later = λ t above. same_in;
    zero_off = λ h. h;
  }

  module _ (e : Ended) (row : row_at rows l ≡ Some e) where
    value_of : (v : ℤ) → cost_at rows l ≡ Some v → e.cost ≡ v
    value_of v is = let here = cost-is rows l e row in cc

    module _ (ended : IsEnded g π T ends e.first e.before l e.cost)
        (latest : IsLatest g π T (suc T) ends e.first l e.cost)
      where
        here : ends l ≡ Some e.cost
        here = cost-is rows l e row

        started : 1 ≤ e.first → IsStarted g ends e.first e.before ended.entry_cost
        started one = elim (ended.entry.entry) [ inl z ↦ absurd (omega arith) | inr st ↦ st ]

        -- a spell that goes on from before the horizon
        back_first : (a b : Schedule) → e.first ≡ 0 → IsWritten g π T e.first l a b → IsWrittenBack g π rows l a b
        back_first a b none written =
            let best = written.best ended.net ended.least in
            let free : ended.entry_cost ≡ pos 0 = elim (ended.entry.entry)
            [ inl z ↦ z.1 | inr st ↦ absurd (omega arith) ] in
            record {
              up_to = λ v is. rw (value_of v is) at (up_to_first g π T b ramp_up ramp_down
                  e.first l e.cost none ended.spell written.on best.0 (omega (arith, ints)));
              first = λ v is. rw (value_of v is) at
                  (first_alone g π ends T filled.table.complete e.first e.before
                  l e.cost ended here latest b (written.tie ended.net ended.least) none);
              later = λ t above. written.others t (inr above);
              zero_off = zero_off_written π T e.first l a b written;
            }

        module _ (st : IsStarted g ends e.first e.before ended.entry_cost) where
          -- a is the plan before the spell was written, b after it, and c after the rest was
          module _ (a b c : Schedule) (idle : IsIdle g a 0 l) (written : IsWritten g π T e.first l a b)
              (back : IsWrittenBack g π rows e.before b c) where
            spell_same : (t : ℕ) → 1 ≤ t → e.first ≤ t → t ≤ l →
                (power_in c t ≡ power_in b t) × (reserve_in c t ≡ reserve_in b t)
            spell_same t one from until = let r = back.later t (omega arith) in (r.power, r.reserve)

            idle_before : IsIdle g c e.before st.before
            idle_before = idle_same a c e.before st.before
                (λ t above until. same_then (written.others t (inl (omega arith))) (back.later t above))
                (idle_part a 0 e.before st.before l (omega arith) (omega arith) idle)

            back_next : IsWrittenBack g π rows l a c
            back_next =
                let best = written.best ended.net ended.least in
                let order = ended.spell.order in
                let cost = spell_cost-same g π T e.first l order b c spell_same in
                let net = best.1 in
                record {
                  up_to = λ v is. rw (value_of v is) at
                      (up_to_next g π T c ramp_up ramp_down
                      e.first e.before st.before l st.value e.cost st.first (back.up_to st.value st.ended) st.gap
                      some_down idle_before ended.spell
                      (λ t from until. (back.later t (omega arith)).on ∙ written.on t (omega arith) from until)
                      (dispatch-same g π T e.first l order b c spell_same best.0) (omega (arith, ints)));
                  first = λ v is. rw (value_of v is) at (first_after g π ends T filled.table.complete e.first
                      e.before l e.cost ended here latest c (first_dispatch-same g π T e.first l order b c spell_same
                      ended.net (written.tie ended.net ended.least)) some_down st idle_before.off
                      (back.first st.value st.ended));
                  later = λ t above. same_then (written.others t (inr above)) (back.later t (omega arith));
                  zero_off = λ h. back.zero_off (zero_off_written π T e.first l a b written h);
                }

        row_of : IsRowBack g π rows l e
        row_of = record {
          order = ended.spell.order;
          goes_on = ended.spell.goes_on;
          starts = λ one. starts_off g ends e.before ended.entry_cost some_down (rw one at ended.entry.entry);
          least = (ended.net, ended.least);
          only = back_first;
          before_less = λ one. let st = started one in let order = ended.spell.order in omega arith;
          before_ended = λ one. let st = started one in (st.value, st.ended);
          before_idle = λ a b one written idle.
              let st = started one in
              let order = ended.spell.order in
              idle_same a b 0 e.before (λ t above until. written.others t (inl (omega arith)))
              (idle_part a 0 0 e.before l (omega arith) (omega arith) idle);
          rest = λ a b c one idle written back. back_next (started one) a b c idle written back;
        }

    module _ (on0 : l ≡ 0 → IsTrue g.on0) where
      named : IsEnded g π T ends e.first e.before l e.cost × IsLatest g π T (suc T) ends e.first l e.cost
      named = elim (from e.cost (cost-is rows l e row)) [
        | inl h ↦ let on = on0 h.1 in cc
        | inr h ↦ (rw (first-is rows l e row, before-is rows l e row) at h.1, rw (first-is rows l e row) at h.2)
      ]

      pub row_back : IsRowBack g π rows l e
      row_back = row_of named.0 named.1
