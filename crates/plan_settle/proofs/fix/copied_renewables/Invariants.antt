use Rattle.plan_settle.proofs.Common.{◌≡◌, ◌+◌, ◌≤◌, length, map, take, named_renewable_of}
use Rattle.plan_settle.proofs.fix.copied_renewables.Given as goal

abbrev pub invariant-loop-index : goal.invariant-loop-index
invariant-loop-index l = record {
  copied : map named_renewable_of l.flats.items ≡ map named_renewable_of (take l.index l.from.items);
  room : length l.from.items ≤ l.index + l.flats.spare;
}
