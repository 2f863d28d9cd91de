use Rattle.plan_check.proofs.Common.{rules, arith, ints, thermal_of, schedule_of, sum_more, production_at}
use Rattle.plan_check.proofs.costs.power_costs.Goals as goal

pub loop-index-preserved : goal.loop-index-preserved
loop-index-preserved c =
    let more = sum_more c.loop-index.index
    (production_at (thermal_of c.args.unit.now) (schedule_of c.args.response.now)) in
    record {
      is = omega (arith, ints, more);
      limit = record { at_least = omega (arith, ints); at_most = omega (arith, ints) };
      near = search rules;
    }
