use Rattle.slope_list.proofs.Common.{◌≡◌, ℤ, ◌+◌, ◌-◌, ◌≤◌, length, ◌+ℤ◌, ◌≤ℤ◌, IsPlaced, IsInBlock, stepped, IsDrawn}
use Rattle.slope_list.proofs.progress.write_run_of_pieces.Given as goal

abbrev pub decreases-loop-cursor : goal.decreases-loop-cursor
decreases-loop-cursor l = length l.fn.window.pieces.now - l.cursor.next

abbrev pub invariant-loop-cursor : goal.invariant-loop-cursor
invariant-loop-cursor l = record {
  placed : IsPlaced l.fn.window.start.first l.fn.window.pieces.now l.cursor;
  low : l.fn.from.cursor.at ≤ℤ l.cursor.at;
  until : l.cursor.at ≤ℤ l.run.until;
  at : l.pen.at ≡ l.cursor.at +ℤ l.run.shift;
  block : IsInBlock l.curve l.pen.at l.pen.span;
  drawn : (lo : ℤ) →
      IsDrawn (stepped l.fn.window.start l.fn.window.pieces.now l.fn.window.step l.fn.window.turn l.curve) lo l.fn.out
      l.fn.from.pen → IsDrawn
      (stepped l.fn.window.start l.fn.window.pieces.now l.fn.window.step l.fn.window.turn l.curve) lo l.out l.pen;
  used : l.pen.used + l.fn.from.pen.span.index + l.fn.from.cursor.next ≤ l.fn.from.pen.used + l.pen.span.index
      + l.cursor.next;
}
