use Rattle.unit_program.proofs.Common.{sym, ◌∙◌, market_of, unit_of, prices_of}
use Rattle.unit_program.proofs.Lemmas.{some_at, bench_at, case_bench_kept, answer_long}
use Rattle.unit_program.proofs.unit_answer.write_best_response_of_numbered_unit.Goals as goal

pub write_best_response_of_unit-requires-clause-horizon : goal.write_best_response_of_unit-requires-clause-horizon
write_best_response_of_unit-requires-clause-horizon c = c.unit_at.ensures.horizon ∙ sym c.requires.horizon

pub write_best_response_of_unit-requires-clause-some : goal.write_best_response_of_unit-requires-clause-some
write_best_response_of_unit-requires-clause-some c =
    some_at (market_of c.args.case.now) _ c.args.number (unit_of c.unit_at.result.unit) c.requires.some
    c.requires.horizon c.unit_at.ensures.unit

pub write_best_response_of_unit-requires-clause-bench : goal.write_best_response_of_unit-requires-clause-bench
write_best_response_of_unit-requires-clause-bench c =
    bench_at (market_of c.args.case.now) _ c.args.number (unit_of c.unit_at.result.unit) c.args.bench.now
    c.requires.bench c.requires.horizon c.unit_at.ensures.unit

pub returns-clause-answer : goal.returns-clause-answer
returns-clause-answer c =
    let r = c.write_best_response_of_unit.ensures.response in
    record {
      unit = unit_of c.unit_at.result.unit;
      is = c.unit_at.ensures.unit;
      fit = r.fit;
      earned = sym r.earned;
      supply = λ k. c.supply_or_demand_side_of_unit.ensures _ k;
    }

pub returns-clause-bench : goal.returns-clause-bench
returns-clause-bench c =
    case_bench_kept (market_of c.args.case.now) c.args.bench.now c.write_best_response_of_unit.new.bench
    c.write_best_response_of_unit.ensures.bench c.requires.bench

pub returns-clause-into : goal.returns-clause-into
returns-clause-into c =
    answer_long (unit_of c.unit_at.result.unit) (prices_of c.args.prices.now) c.write_best_response_of_unit.new.into
    c.write_best_response_of_unit.ensures.response
    ∙ c.requires.horizon
