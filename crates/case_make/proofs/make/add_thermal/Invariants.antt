use Rattle.case_make.proofs.Common.{◌≡◌, ◌+◌, ◌*◌, ◌≤◌, map, named_thermal_of, plan_of, IsSummed, thermal_units}
use Rattle.case_make.proofs.Common.{thermal_plan, moved_on}
use Rattle.case_make.proofs.make.add_thermal.Given as goal

abbrev pub invariant-loop-i : goal.invariant-loop-i
invariant-loop-i l = record {
  named : map named_thermal_of l.units.items ≡ thermal_units l.fn.random l.i;
  planned : plan_of l.plan ≡ thermal_plan l.fn.random l.i;
  summed : IsSummed l.plan;
  moved : l.random ≡ moved_on (9 * l.i) l.fn.random;
  room : 73 ≤ l.units.spare + l.i;
  plan_room : 154 ≤ l.plan.responses.spare + l.i;
}
