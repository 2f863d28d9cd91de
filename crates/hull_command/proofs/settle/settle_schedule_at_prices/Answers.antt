use Rattle.hull_command.proofs.Common.{sym, subst, market_of, schedules_of}
use Rattle.uc_model.specs.Limits.{IsSum}
use Rattle.uc_model.specs.PlainUnits.{prices_of}
use Rattle.price_settle.specs.Settled.{settled_of}
use Rattle.hull_command.proofs.settle.settle_schedule_at_prices.Goals as goal

pub returns-clause-told : goal.returns-clause-told
returns-clause-told c =
    let m = market_of c.args.priced.input.case in
    let plan = schedules_of c.args.priced.input.plan in
    let planned = c.requires.planned in
    let is = c.in_ok-settled.ensures.settled in
    record {
      cost = subst IsSum (sym planned.cost)
          (c.plan_costs_are_within.ensures m plan c.args.priced.input.case.valid planned.feasible);
      value = c.dual_values_are_within.ensures m (prices_of c.args.priced.prices) _ c.args.priced.input.case.valid
          c.args.priced.prices.valid c.requires.horizon is.value;
      each = c.settlements_have_each_unit.ensures m plan (prices_of c.args.priced.prices)
          (settled_of c.in_ok-settled.settled) planned.feasible c.requires.horizon is;
    }
