-- A period of one spell behind a run of another.
use Rattle.spell_run.proofs.Common
use Common.{◌≡◌, ℕ, suc, ◌<◌, ◌≤◌, ℤ, Bool, true, false, eqb, Some, length, refl, sym, ◌∙◌, arith, eqb-true, Table}
use Common.{value_of, ThermalUnit, PriceLists, Schedule, IsThermalUnit, power_in, reserve_in, IsFrontier, IsDispatch}
use Common.{IsMove, level, IsRun, signed}
use Rattle.spell_run.specs.Joins.{IsRunOn, IsDispatchOn, RunsMeetingAtPowerContinueAlike}
use Rattle.spell_run.specs.Joins.{DispatchesMeetingAtPowerContinueAlike, DispatchesAreRuns}
use Rattle.spell_run.proofs.RunLaws.{level_power, move_same, run_more, IsBuilt, build, reserve_not_negative}
use Rattle.spell_run.proofs.RunLaws.{dispatch_from_run, run_from_dispatch, end_from_dispatch}
use Rattle.spell_run.proofs.StepLaws.{under_cap, cap_over}

-- a move of any period is one of a period without a start
move_on : {g : ThermalUnit} (starts : Bool) {q p r : ℤ} → IsMove g starts false q p r → IsMove g false false q p r
move_on {g = g} starts move =
    let u = under_cap g starts false move.greatest in
    record {
      least = move.least;
      greatest = cap_over g false false (record { most = u.most; start = λ e. cc; stop = λ e. cc });
      ramp_up = move.ramp_up;
      ramp_down = move.ramp_down;
      leave = λ e. cc;
    }

no_start : (other k : ℕ) → other ≤ k → false ≡ eqb other (suc k)
no_start other k low = elim (eqb other (suc k)) as (λ b. eqb other (suc k) ≡ b → false ≡ b) [
  | false ↦ λ e. refl
  | true ↦ λ e. let z = eqb-true other (suc k) e in absurd (omega arith)
] refl

module _ (g : ThermalUnit) (π : PriceLists) (first other k : ℕ) (f : Table) (d : Schedule) (v : ℤ)
    (from : first ≤ suc k) (low : other ≤ k) (within : k < length π.energy)
    (front : IsFrontier g π other k f) (there : value_of f (level g first d k) ≡ Some v) where
  -- the run of f that ends where d does, with the power and the reserve of d in the period after it
  joined : IsBuilt g π other k (level g first d k) v (power_in d (suc k)) (reserve_in d (suc k))
  joined =
      build within (omega arith) front (level g first d k) (power_in d (suc k)) there (omega signed)
      (reserve_not_negative d k)

  joined_run : IsRun g first (suc k) d → IsRun g other (suc k) joined.run
  joined_run run =
      let j = joined in
      let here = move_same (sym j.before) (sym j.power) (sym j.reserve)
      (move_on (eqb first (suc k)) (run k from (omega arith))) in
      run_more j.run j.keeps (rw (← no_start other k low) here)

  run_on : IsRun g first (suc k) d → IsRunOn g π first other k d v
  run_on run =
      let j = joined in
      record {
        run = j.run;
        keeps = joined_run run;
        ends = level_power g other j.run k (omega arith) ∙ j.power ∙ sym (level_power g first d k from);
        cost = j.cost;
      }

  dispatch_on : IsThermalUnit g → IsDispatch g (length π.energy) first (suc k) d → IsDispatchOn g π other k d v
  dispatch_on unit dispatch =
      let j = joined in
      let end = end_from_dispatch unit from dispatch in
      record {
        dispatch = j.run;
        keeps = dispatch_from_run j.run (omega arith) (joined_run (run_from_dispatch unit from dispatch))
            (record {
              stop = λ inside. (let s = end.stop inside in omega signed);
              leave = λ inside. (let s = end.leave inside in omega signed);
            });
        cost = j.cost;
      }

pub runs_go_on : RunsMeetingAtPowerContinueAlike
runs_go_on = run_on

pub dispatches_go_on : DispatchesMeetingAtPowerContinueAlike
dispatches_go_on g π first other k f d v unit from low within front there dispatch =
    dispatch_on g π first other k f d v from low within front there unit dispatch

pub dispatches_are_runs : DispatchesAreRuns
dispatches_are_runs g periods first k d unit from dispatch = run_from_dispatch unit from dispatch
