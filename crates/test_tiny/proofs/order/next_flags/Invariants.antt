use Rattle.test_tiny.proofs.Common.{◌≡◌, false, true, length}
use Rattle.test_tiny.proofs.Lemmas.{IsTurned}
use Rattle.test_tiny.proofs.order.next_flags.Given as goal

abbrev pub invariant-loop-index : goal.invariant-loop-index
invariant-loop-index l = record {
  turned : IsTurned false true l.index l.initial.list.items l.list.items;
  long : length l.list.items ≡ length l.initial.list.items;
}
