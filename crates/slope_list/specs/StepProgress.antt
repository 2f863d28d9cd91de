-- The progress over the runs of a step (this project's profile).
use Rattle.std.specs.Prelude.{◌+◌, ◌≤◌, ℤ, ◌≤ℤ◌, ◌<ℤ◌, List}
use Rattle.uc_model.specs.declared.units.Curve.{Curve}
use Rattle.slope_list.specs.declared.piece.Piece.{Piece}
use Rattle.slope_list.specs.Cursors.{IsPlaced}
use Rattle.slope_list.specs.Blocks.{IsInBlock}
use Rattle.slope_list.specs.Drawn.{IsDrawn}
use Rattle.slope_list.specs.declared.window.Window.{Window}
use Rattle.slope_list.specs.Runs.{IsNear}
use Rattle.slope_list.specs.Window.{runs_from}
use Rattle.slope_list.specs.declared.progress.StepProgress.{StepProgress}
use Rattle.slope_list.specs.After.{stepped}

-- the progress went on from one power to a later one, and what lies between them is written
pub record IsFurther (w : Window) (c : Curve) (old new : List Piece) (from to : StepProgress) : Type 0 where
  pub drawn : (lo : ℤ) → IsDrawn (stepped w.start w.pieces.now w.step w.turn c) lo old from.pen
      → IsDrawn (stepped w.start w.pieces.now w.step w.turn c) lo new to.pen
  pub placed : IsPlaced w.start.first w.pieces.now to.cursor
  pub near : to.pen.at <ℤ w.high → IsNear w to.cursor.at to.pen.at
  pub rise : from.pen.at <ℤ to.pen.at
  pub high : to.pen.at ≤ℤ w.high
  pub block : IsInBlock c to.pen.at to.pen.span
  pub used : to.pen.used + from.pen.span.index + from.cursor.next
      ≤ from.pen.used + to.pen.span.index + to.cursor.next + 1
  pub fewer : to.pen.at <ℤ w.high → runs_from w.step w.turn to.cursor.at to.pen.at + 1
      ≤ runs_from w.step w.turn from.cursor.at from.pen.at
