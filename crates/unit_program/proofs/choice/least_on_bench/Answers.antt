use Rattle.std.proofs.Common.{length}
use Rattle.unit_program.proofs.choice.least_on_bench.Goals as goal

pub find_least_cost_end-requires-clause-bench : goal.find_least_cost_end-requires-clause-bench
find_least_cost_end-requires-clause-bench c =
    c.recall_last_answer_of_unit.ensures.bench (length c.args.prices.now.energy.items)
    (length c.args.unit.now.points.items)
    c.requires.bench

pub returns-in_default-clause-bench : goal.returns-in_default-clause-bench
returns-in_default-clause-bench c =
    λ periods points b. c.find_least_cost_end.ensures.bench periods points
    (c.recall_last_answer_of_unit.ensures.bench periods points b)

pub returns-clause-bench : goal.returns-clause-bench
returns-clause-bench c = λ periods points b.
    c.keep.ensures.bench periods points
    (c.find_least_cost_end.ensures.bench periods points (c.recall_last_answer_of_unit.ensures.bench periods points b))
