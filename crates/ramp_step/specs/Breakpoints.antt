-- Breakpoints with whole slopes (this project's profile).
use Rattle.std.specs.Prelude.{◌≡◌, ℕ, ◌+◌, ◌<◌, ℤ, ◌+ℤ◌, ◌-ℤ◌, ◌*ℤ◌, ◌≤ℤ◌, ◌<ℤ◌, int_div, List}
use Rattle.ramp_step.specs.declared.breakpoint.Knot.{Knot}
use Rattle.ramp_step.specs.Knots.{power, height, IsShape}

-- the slope from knot k to the next
abbrev pub slope_at : List Knot → ℕ → ℤ
slope_at ks k = int_div (height ks (k + 1) -ℤ height ks k) (power ks (k + 1) -ℤ power ks k)

-- the powers of the first n knots rise, the slopes between neighbours are whole, and no slope is
-- below the one before it
pub record AreBreakpoints (ks : List Knot) (n : ℕ) : Type 0 where
  pub rise : (k : ℕ) → k + 1 < n → power ks k <ℤ power ks (k + 1)
  pub whole : (k : ℕ) → k + 1 < n → height ks (k + 1) ≡ height ks k
      +ℤ slope_at ks k *ℤ (power ks (k + 1) -ℤ power ks k)
  pub order : (k : ℕ) → k + 2 < n → slope_at ks k ≤ℤ slope_at ks (k + 1)

-- such knots stand for a convex function, and no others do
abbrev pub BreakpointsAreShapes : Type 0
BreakpointsAreShapes = (ks : List Knot) (n : ℕ) → AreBreakpoints ks n → IsShape ks n

abbrev pub ShapesAreBreakpoints : Type 0
ShapesAreBreakpoints = (ks : List Knot) (n : ℕ) → IsShape ks n → AreBreakpoints ks n
