-- The progress along a run.
use Rattle.slope_list.proofs.Common.{◌≡◌, ℕ, suc, ◌+◌, ◌<◌, ◌≤◌, List, length, ◌∙◌, sym, ap, arith, ℤ, ◌+ℤ◌, ◌≤ℤ◌, ◌<ℤ◌}
use Rattle.slope_list.proofs.Common.{ints, Curve, Piece, Cursor, Pen, Run, StepProgress, Window, piece, end_at, IsPlace}
use Rattle.slope_list.proofs.Common.{IsInBlock, IsDrawn, IsFurther, stepped, IsLine, IsPlaced, last_power, function_of}
use Rattle.slope_list.proofs.Common.{nearest, paid, runs_from, IsRun}
use Rattle.slope_list.proofs.LineLaws.{line_part}
use Rattle.slope_list.proofs.PieceLaws.{along_line}
use Rattle.slope_list.proofs.RunLaws.{cursor_in}

pub before_moved : (x y u d : ℤ) → x ≡ y +ℤ d → x <ℤ (u +ℤ d) → y <ℤ u
before_moved x y u d is h = omega (arith, ints)

module _ (w : Window) (from : ℤ) (run : Run) (r : IsRun w from run) (cursor : Cursor)
    (placed : IsPlaced w.start.first w.pieces.now cursor) (low : from ≤ℤ cursor.at) where
  pub run_power : (e : ℤ) → cursor.at ≤ℤ e → e ≤ℤ run.until → IsPlace (e +ℤ run.shift)
  run_power e at upto =
      let o = cursor_in w cursor placed in
      let least = o.out.at_least in
      let last = r.last in
      let from_first = o.from in
      let most = (w.valid.small (last_power w.start.first w.pieces.now) (omega (arith, ints))
      (omega (arith, ints))).0.at_most in
      let a = r.shift.at_least in
      let b = r.shift.at_most in
      (omega (arith, ints), omega (arith, ints))

  pub run_line : (e : ℤ) → cursor.next < length w.pieces.now → cursor.at <ℤ e →
      e ≤ℤ (piece w.pieces.now cursor.next).end → e ≤ℤ run.until
      → IsLine (paid w.start w.pieces.now w.step w.turn) (cursor.at +ℤ run.shift) (e +ℤ run.shift)
      ((piece w.pieces.now cursor.next).slope +ℤ run.slope)
  run_line e inside rise within upto =
      let k = cursor.next in
      let ps = w.pieces.now in
      r.lines cursor.at e (piece ps k).slope low upto
      (line_part (function_of w.start ps) (end_at w.start.first ps k) (end_at w.start.first ps (suc k))
      (piece ps k).slope cursor.at e (along_line w.start.first w.start.level ps w.valid.slopes k inside) placed.from
      rise within)

  -- where it ends
  pub run_placed : (until : ℤ) → until ≡ run.until → cursor.at ≤ℤ run.until →
      (cursor.next < length w.pieces.now → run.until <ℤ (piece w.pieces.now cursor.next).end) →
      IsPlaced w.start.first w.pieces.now (record { at = until; next = cursor.next })
  run_placed until is upto short =
      let begun = placed.from in
      let last = r.last in
      record {
        some = placed.some;
        from = omega (arith, ints);
        to = λ h. let s = short h in omega (arith, ints);
        last = λ h. let e = placed.last h in omega (arith, ints);
      }

-- the pen where the run ends
pub record IsEnded (w : Window) (c : Curve) (run : Run) (from : StepProgress) (next : ℕ) (old new : List Piece)
    (pen : Pen) : Type 0 where
  pub at : pen.at ≡ run.until +ℤ run.shift
  pub block : IsInBlock c pen.at pen.span
  pub drawn : (lo : ℤ) → IsDrawn (stepped w.start w.pieces.now w.step w.turn c) lo old from.pen →
      IsDrawn (stepped w.start w.pieces.now w.step w.turn c) lo new pen
  pub used : pen.used + from.pen.span.index + from.cursor.next ≤ from.pen.used + pen.span.index + next + 1

pub run_ended : (w : Window) (c : Curve) (run : Run) (from : StepProgress) (cursor : Cursor) (old new : List Piece)
    (pen : Pen) →
    IsRun w from.cursor.at run → from.pen.at ≡ from.cursor.at +ℤ run.shift
    → IsPlaced w.start.first w.pieces.now cursor → cursor.at ≡ run.until →
    IsEnded w c run from cursor.next old new pen →
    IsFurther w c old new from (record { cursor = cursor; pen = pen })
run_ended w c run from cursor old new pen r at placed is e =
    let rise = r.rise in
    let high = r.high in
    let ended = e.at in
    record {
      drawn = e.drawn;
      placed = placed;
      near = λ h. is ∙ r.near ∙ ap (nearest w.step.ramp_up w.step.ramp_down w.turn) (sym ended);
      rise = omega (arith, ints);
      high = omega (arith, ints);
      block = e.block;
      used = e.used;
      fewer = λ h.
          let f = r.fewer (omega (arith, ints)) in
          let a : runs_from w.step w.turn cursor.at pen.at ≡ runs_from w.step w.turn run.until
          (run.until +ℤ run.shift) = ap (λ (y : ℤ). runs_from w.step w.turn y pen.at) is ∙
          ap (runs_from w.step w.turn run.until) ended in
          let b : runs_from w.step w.turn from.cursor.at from.pen.at ≡ runs_from w.step w.turn from.cursor.at
          (from.cursor.at +ℤ run.shift) = ap (runs_from w.step w.turn from.cursor.at) at in
          omega arith;
    }
