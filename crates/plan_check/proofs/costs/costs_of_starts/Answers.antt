use Rattle.plan_check.proofs.Common.{◌≡◌, ◌+◌, ℕ, suc, false, cond, get_or, sym, ap, ◌∙◌, arith, ints, thermal_of}
use Rattle.plan_check.proofs.Common.{schedule_of, time_down, sum_more, start_cost_at}
use Rattle.plan_check.proofs.Lemmas.{cond_at_most}
use Rattle.plan_check.proofs.costs.costs_of_starts.Goals as goal

pub loop-index-preserved : goal.loop-index-preserved
loop-index-preserved c =
    let g = thermal_of c.args.unit.now in
    let s = schedule_of c.args.response.now in
    let k = c.loop-index.index in
    let known = c.loop-index.invariant in
    let down = known.down in
    let more = sum_more k (start_cost_at g s) in
    let next : k + 1 ≡ suc k = omega arith in
    let after = c.time_off_after-down.ensures in
    let bound = cond_at_most (get_or s.on k false) c.loop-index.down in
    record {
      down = after ∙ ap (λ (n : ℕ). cond (get_or s.on k false) 0 (suc n)) down ∙ ap (time_down g s) (sym next);
      down_limit = omega (arith, after, bound);
      is = omega (arith, ints, more);
      limit = record { at_least = omega (arith, ints); at_most = omega (arith, ints) };
    }
