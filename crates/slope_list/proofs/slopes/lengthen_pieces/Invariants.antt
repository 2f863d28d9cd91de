use Rattle.slope_list.proofs.Common.{◌≡◌, length, vec_capacity}
use Rattle.slope_list.proofs.slopes.lengthen_pieces.Given as goal

abbrev pub invariant-loop : goal.invariant-loop
invariant-loop l = record {
  count_is : length l.pieces.items ≡ l.counter;
  capacity : vec_capacity l.pieces ≡ vec_capacity l.fn.pieces;
}
