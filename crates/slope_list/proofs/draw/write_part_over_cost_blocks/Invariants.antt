use Rattle.slope_list.proofs.Common.{ℤ, ◌+◌, ◌-◌, ◌≤◌, length, ◌<ℤ◌, ◌≤ℤ◌, IsLine, IsInBlock, with_cost, IsDrawn}
use Rattle.slope_list.proofs.draw.write_part_over_cost_blocks.Given as goal

abbrev pub decreases-loop-pen : goal.decreases-loop-pen
decreases-loop-pen l = length l.curve.blocks.items - l.pen.span.index

abbrev pub invariant-loop-pen : goal.invariant-loop-pen
invariant-loop-pen l = record {
  low : l.fn.from.at ≤ℤ l.pen.at;
  high : l.pen.at <ℤ l.end;
  block : IsInBlock l.curve l.pen.at l.pen.span;
  drawn : (f : ℤ → ℤ) (lo : ℤ) → IsLine f l.fn.from.at l.end l.slope →
      IsDrawn (with_cost f l.curve) lo l.fn.out l.fn.from → IsDrawn (with_cost f l.curve) lo l.out l.pen;
  used : l.pen.used + l.fn.from.span.index ≤ l.fn.from.used + l.pen.span.index;
}
