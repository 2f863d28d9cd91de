use Rattle.test_tiny.proofs.Common.{◌≡◌, ◌+◌, ◌≤◌, thermal_of, schedule_of, time_down}
use Rattle.test_tiny.proofs.earnings.periods_down.Given as goal

abbrev pub invariant-loop-earlier : goal.invariant-loop-earlier
invariant-loop-earlier l = record {
  so_far : l.down ≡ time_down (thermal_of l.unit) (schedule_of l.response) l.earlier;
  limit : l.down ≤ 1000000 + l.earlier;
}
