use Rattle.test_tiny.proofs.Common.{◌≡◌, pos, neg_ℤ, take, fold, int_min, line_at, IsFrom}
use Rattle.test_tiny.proofs.envelope.least_from.Given as goal

abbrev pub invariant-loop-point : goal.invariant-loop-point
invariant-loop-point l = record {
  so_far : l.least ≡ fold (λ a p. int_min a (line_at l.fn.price (pos l.fn.power) p)) l.fn.start
      (take l.point-index l.points);
  bound : IsFrom (neg_ℤ (pos 2417851639229258349412352)) (pos 2417851639229258349412352) l.least;
}
