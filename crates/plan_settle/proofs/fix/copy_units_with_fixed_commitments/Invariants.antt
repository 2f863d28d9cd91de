use Rattle.plan_settle.proofs.Common.{◌≡◌, ◌+◌, ◌≤◌, length, map, take, market_of, schedules_of, named_thermal_of}
use Rattle.plan_settle.proofs.Common.{zip_with, held_named}
use Rattle.plan_settle.proofs.fix.copy_units_with_fixed_commitments.Given as goal

abbrev pub invariant-loop-index : goal.invariant-loop-index
invariant-loop-index l = record {
  held : map named_thermal_of l.units.items ≡ take l.index
      (zip_with held_named (market_of l.case).thermal (schedules_of l.plan));
  room : length l.case.thermal.items ≤ l.index + l.units.spare;
}
