use Rattle.uc_case.proofs.Common.{◌≡◌, ◌+◌, drop, first_crossed}
use Rattle.uc_case.proofs.units.first_period_of_crossed_power_limits.Given as goal

abbrev pub invariant-loop-low : goal.invariant-loop-low
invariant-loop-low l = record {
  count : l.position ≡ l.low-index;
  so_far : first_crossed (l.low-index + 1) (drop l.low-index l.least) (drop l.low-index l.most) ≡ first_crossed 1
      l.least l.most;
}
