use Rattle.bundle_columns.proofs.Common.{◌+◌, ◌≤◌, schedule_of, entries_of, AreOfOne}
use Rattle.bundle_columns.proofs.plans.entries_of_one_response.Given as goal

abbrev pub invariant-loop : goal.invariant-loop
invariant-loop l = record {
  made : AreOfOne l.counter (schedule_of l.from) (entries_of l.entries);
  room : l.places ≤ l.counter + l.entries.spare;
}
