-- What is seen of a shape of breakpoints.
use Rattle.std.specs.Prelude.{◌≡◌, ℕ, length}
use Rattle.slope_list.specs.Table.{Table}
use Rattle.point_list.specs.declared.breaks.Breaks.{Breaks}
use Rattle.ramp_step.specs.Tables.{function_of}

-- how many breakpoints it keeps
abbrev pub count_of : Breaks → ℕ
count_of s = length s.knots.items

-- its function
abbrev pub shown : Breaks → Table
shown s = function_of s.knots.items

-- a refused call leaves both as they were
pub record IsUntouched (s s' : Breaks) : Type 0 where
  pub function : shown s' ≡ shown s
  pub count : count_of s' ≡ count_of s
