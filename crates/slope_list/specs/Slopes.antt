-- What is seen of slopes (this project's profile).
use Rattle.std.specs.Prelude.{◌≡◌, ℕ, ◌+◌, ◌≤◌, ℤ}
use Rattle.slope_list.specs.Table.{Table}
use Rattle.slope_list.specs.After.{table_after}
use Rattle.slope_list.specs.declared.slopes.Slopes.{Slopes}
use Rattle.slope_list.specs.declared.slopes.Spare.{Spare}
use Rattle.slope_list.specs.Kept.{used_of}

-- its function
abbrev pub shown : Slopes → Table
shown s = table_after s.pieces.items s.made

-- how many pieces it has room for
abbrev pub room_of : Slopes → ℕ
room_of s = s.room

-- and how many a step may draw beside it
abbrev pub space_of : Spare → ℕ
space_of s = s.room

-- how many it has
abbrev pub count_of : Slopes → ℕ
count_of s = used_of s.made

-- the turn of the last step
abbrev pub turn_of : Slopes → ℤ
turn_of s = s.turn

-- it may take a step that makes so many pieces more, in a spare list of as much room
pub record MayGrow (more : ℕ) (s : Slopes) (spare : Spare) : Type 0 where
  pub fits : count_of s + more ≤ room_of s
  pub alike : space_of spare ≡ room_of s

-- it has no more pieces than that, and each its room
pub record IsGrown (more : ℕ) (s s' : Slopes) (spare spare' : Spare) : Type 0 where
  pub count : count_of s' ≤ count_of s + more
  pub room : room_of s' ≡ room_of s
  pub space : space_of spare' ≡ space_of spare
