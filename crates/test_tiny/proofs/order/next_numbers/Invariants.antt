use Rattle.test_tiny.proofs.Common.{◌≡◌, ◌≤◌, length, All}
use Rattle.test_tiny.proofs.Lemmas.{IsTurned}
use Rattle.test_tiny.proofs.order.next_numbers.Given as goal

abbrev pub invariant-loop-index : goal.invariant-loop-index
invariant-loop-index l = record {
  turned : IsTurned 0 l.fn.most l.index l.initial.list.items l.list.items;
  within : All (λ x. x ≤ l.fn.most) l.list.items;
  long : length l.list.items ≡ length l.initial.list.items;
}
