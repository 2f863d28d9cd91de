-- The function on a whole interval that knots stand for (this project's profile).
use Rattle.std.specs.Prelude.{ℕ, ◌<◌, List, length}
use Rattle.slope_list.specs.Table.{Table, IsConvex, IsPlace, IsAmount, IsWithinLimits}
use Rattle.ramp_step.specs.declared.breakpoint.Knot.{Knot}
use Rattle.ramp_step.specs.Breakpoints.{AreBreakpoints}
use Rattle.ramp_step.specs.Knots.{power, height}
use Rattle.ramp_step.specs.Values.{values_of}

-- the first power, and the values at all powers up to the last
abbrev pub table_of : List Knot → ℕ → Table
table_of ks n = record { lo = power ks 0; values = values_of ks n }

-- the function of a whole list
abbrev pub function_of : List Knot → Table
function_of ks = table_of ks (length ks)

-- the first n knots are breakpoints with whole slopes that don't fall, of a function that is convex
-- and within the limits
pub record AreBreaks (ks : List Knot) (n : ℕ) : Type 0 where
  pub points : AreBreakpoints ks n
  pub convex : IsConvex (table_of ks n)
  pub within : IsWithinLimits (table_of ks n)

-- the knots of the whole list are
abbrev pub IsBreakList : List Knot → Type 0
IsBreakList ks = AreBreaks ks (length ks)

-- powers and values of the first n knots are within the limits
pub record AreWithinLimits (ks : List Knot) (n : ℕ) : Type 0 where
  pub powers : (k : ℕ) → k < n → IsPlace (power ks k)
  pub amounts : (k : ℕ) → k < n → IsAmount (height ks k)
