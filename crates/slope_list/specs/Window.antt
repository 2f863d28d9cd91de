-- The least value in reach of the ramps: the falling part moved down, a flat part, and the rising
-- part moved up (this project's profile).
use Rattle.std.specs.Prelude.{◌≡◌, ℕ, ◌+◌, ℤ, ◌+ℤ◌, ◌-ℤ◌, ◌*ℤ◌, ◌≤ℤ◌, int_lt, if◌then◌else◌, List}
use Rattle.std.specs.Int.{int_min, int_max}
use Rattle.slope_list.specs.declared.step_terms.Step.{Step}
use Rattle.slope_list.specs.Steps.{IsFairStep}
use Rattle.slope_list.specs.declared.piece.Piece.{Piece}
use Rattle.slope_list.specs.declared.piece.Start.{Start}
use Rattle.slope_list.specs.Pieces.{last_power, AreSlopes}
use Rattle.slope_list.specs.Kink.{kinked, bend_of, AreSmall, AreGentle}
use Rattle.slope_list.specs.Cursors.{IsValley}

-- the power in reach of x that is nearest to m
abbrev pub nearest : ℤ → ℤ → ℤ → ℤ → ℤ
nearest up down m x = int_max (x -ℤ up) (int_min (x +ℤ down) m)

-- the least value in reach of x, where m is the least power of the least value
abbrev pub moved : Start → List Piece → Step → ℤ → ℤ → ℤ
moved start ps s m x = kinked start ps s (nearest s.ramp_up s.ramp_down m x)

-- and what the prices pay
abbrev pub paid : Start → List Piece → Step → ℤ → ℤ → ℤ
paid start ps s m x = moved start ps s m x +ℤ s.slope *ℤ x

-- the parts of a step are those of a valley
pub record IsStepOver (ps : List Piece) (start : Start) (s : Step) (m hi : ℤ) : Type 0 where
  pub slopes : AreSlopes start.first ps
  pub small : AreSmall start ps
  pub gentle : AreGentle ps
  pub fair : IsFairStep s
  pub valley : IsValley (kinked start ps s) start.first (last_power start.first ps) m
  pub high : hi ≤ℤ (last_power start.first ps +ℤ s.ramp_up)

-- one up to a power, and none from there on
abbrev pub one_before : ℤ → ℤ → ℕ
one_before m x = if int_lt x m then 1 else 0

-- how many runs and flat parts there are at most from x on, but for the last run, where y is the
-- power in reach of x that is nearest to m
abbrev pub runs_from : Step → ℤ → ℤ → ℤ → ℕ
runs_from s m y x = one_before (bend_of s) y + one_before m y + one_before (y +ℤ s.ramp_up) x

-- f is the same from a to b
pub record IsFlat (f : ℤ → ℤ) (a b : ℤ) : Type 0 where
  pub from : a ≤ℤ b
  pub same : (x : ℤ) → a ≤ℤ x → x ≤ℤ b → f x ≡ f a
