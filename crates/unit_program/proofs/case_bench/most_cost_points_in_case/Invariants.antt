use Rattle.unit_program.proofs.Common.{◌≤◌}
use Rattle.unit_program.proofs.Lemmas.{HaveFew}
use Rattle.unit_program.proofs.case_bench.most_cost_points_in_case.Given as goal

abbrev pub invariant-loop-named : goal.invariant-loop-named
invariant-loop-named l = record {
  limit : l.most ≤ 32;
  each : HaveFew l.named-index l.most l.case.thermal.items;
}
