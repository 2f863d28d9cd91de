use Rattle.unit_program.proofs.Common.{pos, length, arith, ints, Schedule, thermal_of, prices_of, IsThermalFeasible}
use Rattle.unit_program.proofs.Common.{EachCostsMore}
use Rattle.unit_program.proofs.Lemmas.{if_none_more, none_feasible}
use Rattle.unit_program.proofs.bench.Bench.find_least_cost_end.Goals as goal

pub find_least_cost_end_within-requires-2-clause-bench : goal.find_least_cost_end_within-requires-2-clause-bench
find_least_cost_end_within-requires-2-clause-bench c = c.find_least_cost_end_within.ensures.bench
    (length c.args.prices.now.energy.items)
    (length c.args.unit.now.points.items) c.requires.bench

pub returns-clause-none : goal.returns-clause-none
returns-clause-none c =
    let u = thermal_of c.args.unit.now in
    let π = prices_of c.args.prices.now in
    if_none_more (EachCostsMore u π (pos 4000000000000000000)) ((s : Schedule) →
    IsThermalFeasible u (length c.args.prices.now.energy.items) s → ⊥)
    (none_feasible c.earnings_are_within.ensures u π c.args.unit.now.valid c.args.prices.now.valid
    (pos 4000000000000000000) (omega (arith, ints)))
    c.find_least_cost_end_within-2.result c.find_least_cost_end_within-2.ensures.none

pub returns-clause-bench : goal.returns-clause-bench
returns-clause-bench c = λ periods points b. c.find_least_cost_end_within-2.ensures.bench periods points
    (c.find_least_cost_end_within.ensures.bench periods points b)
