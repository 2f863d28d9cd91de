-- A list of breakpoints that can be counted (this project's profile).
use Rattle.std.specs.Prelude.{◌^◌, ◌<◌, List, length}
use Rattle.ramp_step.specs.declared.breakpoint.Knot.{Knot}
use Rattle.ramp_step.specs.Tables.{IsBreakList}

-- the whole list is breakpoints with whole slopes that don't fall, within the limits, and few
-- enough to be counted
pub record IsCountedList (ks : List Knot) : Type 0 where
  pub breaks : IsBreakList ks
  pub count : length ks < 2 ^ 32
