use Rattle.unit_program.proofs.Common.{market_of}
use Rattle.unit_program.proofs.case_bench.make_bench_for_case.Goals as goal

pub returns : goal.returns
returns c =
    c.case_bench_suffices_for_each_unit.ensures (market_of c.args.case.now) c.most_cost_points_in_case-points.result
    c.in_ok-bench.bench
    (λ k d less. c.most_cost_points_in_case-points.ensures.each k d less) c.in_ok-bench.ensures
