use Rattle.test_whole.proofs.Common.{market_of}
use Rattle.test_whole.proofs.audits.bench_for.Goals as goal

pub returns : goal.returns
returns c =
    c.case_bench_suffices_for_each_unit.ensures (market_of c.args.case.now) 32 c.in_ok-bench.bench
    (λ k d less. (c.args.case.now.valid.thermal k d less).0.point_count) c.in_ok-bench.ensures
