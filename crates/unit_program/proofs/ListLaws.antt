-- Every feasible schedule is a list of spells: from the last period back, by the run or the time off that a period is
-- in.
use Rattle.unit_program.proofs.Common.{ℕ, zero, suc, ◌<◌, ◌≤◌, inl, inr, List, [], ◌∷◌, refl, arith, IsTrue, IsFalse}
use Rattle.unit_program.proofs.Common.{ThermalUnit, Schedule, on_in, IsThermalFeasible}
use Rattle.unit_program.specs.Lists.{Run, HasSpell, AreSpells, SchedulesAreSpells}
use Rattle.unit_program.proofs.SpellLaws.{IsRun, dispatch_of_run}
use Rattle.unit_program.proofs.ShapeLaws.{shape_of, rest_before, IsStop, stop_before, spell_of, gap_of, last_on}

module _ {g : ThermalUnit} {n : ℕ} (s : Schedule) (right : IsThermalFeasible g n s) where
  abbrev SpellsTo : ℕ → Type 0
  SpellsTo l = (rs : List Run) × AreSpells g n s l rs

  -- a period with no on period from 1 up to it, itself on if it isn't 0
  none_to : (l : ℕ) → IsFalse (on_in g s l) → (1 ≤ l → IsTrue (on_in g s l)) → SpellsTo l
  none_to zero off on = ([], (refl, off))
  none_to (suc k) off on = let here = on (omega arith) in cc

  one_more : (f l : ℕ) → l ≤ n → IsRun g s f l → HasSpell g n s (record { first = f; last = l }) →
      ((k : ℕ) → k < f → IsStop g s n k → SpellsTo k) → SpellsTo l
  one_more zero l low run spell earlier = (record { first = 0; last = l } ∷ [], (refl, spell, inl (refl, refl)))
  one_more (suc k) l low run spell earlier =
      let w = rest_before g s k l run in
      let before = earlier w.0 (omega arith) (stop_before g s n w.0 k w.1) in
      let gap = gap_of s right w.0 k w.1 (omega arith) (run.on (suc k) (omega arith) run.order) in (
        record { first = suc k; last = l } ∷ before.0,
        (refl, spell, inr (k, refl, (w.0, gap, w.1.off, before.1))),
      )

  spells_to : (m l : ℕ) → l < m → l ≤ n → IsStop g s n l → SpellsTo l
  spells_to zero l near low stop = absurd (omega arith)
  spells_to (suc m) l near low stop = elim (shape_of g s l) [
    | inl w ↦
        let run = w.1 in
        let after = stop.after (run.on l run.order (omega arith)) in
        let spell : HasSpell g n s (record { first = w.0; last = l }) = record {
          spell = spell_of s right w.0 l run low after;
          on = run.on;
          dispatch = dispatch_of_run g s right run low after;
        } in
        one_more w.0 l low run spell (λ k below. spells_to m k (omega arith) (omega arith))
    | inr w ↦ none_to l w.1.here stop.on
  ]

pub schedules_are_spells : SchedulesAreSpells
schedules_are_spells g periods s right =
    let e = last_on s right in
    let r = spells_to s right (suc e.0) e.0 (omega arith) e.1.low e.1.stop in
    (r.0, record { last = e.0; spells = r.1; rest = e.1.run; off = e.1.off })
