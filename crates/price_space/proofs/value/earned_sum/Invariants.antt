use Rattle.price_space.proofs.Common.{◌≡◌, ◌*◌, pos, neg_ℤ, take, total, IsFrom}
use Rattle.price_space.proofs.value.earned_sum.Given as goal

abbrev pub invariant-loop-number : goal.invariant-loop-number
invariant-loop-number l = record {
  so_far : l.sum ≡ total (take l.number l.earned);
  limit : IsFrom (neg_ℤ (pos (3500000000000000000 * l.number))) (pos (3500000000000000000 * l.number)) l.sum;
}
