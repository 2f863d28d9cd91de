use Rattle.case_make.proofs.Common.{◌≡◌, ◌+◌, ◌*◌, ◌≤◌, ◌++◌, map, named_renewable_of, plan_of, IsSummed}
use Rattle.case_make.proofs.Common.{renewable_units, renewable_plans, moved_on}
use Rattle.case_make.proofs.make.add_renewables.Given as goal

abbrev pub invariant-loop-j : goal.invariant-loop-j
invariant-loop-j l = record {
  named : map named_renewable_of l.units.items ≡ renewable_units l.fn.random 0 l.j;
  planned : plan_of l.plan ≡ plan_of l.fn.plan ++ renewable_plans l.fn.random 0 l.j;
  summed : IsSummed l.plan;
  moved : l.random ≡ moved_on (49 * l.j) l.fn.random;
  room : 81 ≤ l.units.spare + l.j;
  plan_room : 81 ≤ l.plan.responses.spare + l.j;
}
