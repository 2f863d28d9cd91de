-- The breakpoint where a list of breakpoints turns (this project's profile).
use Rattle.std.specs.Prelude.{◌≡◌, ℕ, List}
use Rattle.ramp_step.specs.declared.breakpoint.Knot.{Knot}
use Rattle.ramp_step.specs.Knots.{knot}
use Rattle.ramp_step.specs.Window.{IsTurn}

-- q is the first of n breakpoints that the next one isn't below
pub record IsAtTurn (ks : List Knot) (n : ℕ) (q : Knot) : Type 0 where
  pub turn : ℕ
  pub is : IsTurn ks n turn
  pub there : q ≡ knot ks turn
