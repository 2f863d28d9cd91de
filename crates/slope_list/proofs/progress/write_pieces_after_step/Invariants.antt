use Rattle.slope_list.proofs.Common.{◌+◌, ◌≤◌, length, ◌-ℤ◌, ◌<ℤ◌, ◌≤ℤ◌, unsigned_abs, IsPlaced, IsInBlock, IsNear}
use Rattle.slope_list.proofs.Common.{runs_from, stepped, IsDrawn}
use Rattle.slope_list.proofs.progress.write_pieces_after_step.Given as goal

abbrev pub decreases-loop-progress : goal.decreases-loop-progress
decreases-loop-progress l = unsigned_abs (l.window.high -ℤ l.progress.pen.at)

abbrev pub invariant-loop-progress : goal.invariant-loop-progress
invariant-loop-progress l = record {
  placed : IsPlaced l.window.start.first l.window.pieces.now l.progress.cursor;
  near : l.progress.pen.at <ℤ l.window.high → IsNear l.window l.progress.cursor.at l.progress.pen.at;
  low : l.fn.from.at ≤ℤ l.progress.pen.at;
  high : l.progress.pen.at ≤ℤ l.window.high;
  block : l.progress.pen.at <ℤ l.window.high → IsInBlock l.curve l.progress.pen.at l.progress.pen.span;
  drawn : IsDrawn (stepped l.window.start l.window.pieces.now l.window.step l.window.turn l.curve) l.fn.from.at l.out
      l.progress.pen;
  runs : l.progress.pen.at <ℤ l.window.high → l.progress.pen.used + runs_from l.window.step l.window.turn
      l.progress.cursor.at
      l.progress.pen.at ≤ l.progress.pen.span.index + l.progress.cursor.next + 3;
  used : l.progress.pen.used ≤ length l.window.pieces.now + length l.curve.blocks.items + 3;
}
