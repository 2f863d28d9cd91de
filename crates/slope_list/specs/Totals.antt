-- What fits 64 bits.
use Rattle.std.specs.Prelude.{ℤ, pos, neg_ℤ, ◌+ℤ◌, ◌-ℤ◌, ◌*ℤ◌}
use Rattle.plain_lists.specs.Ranges.{IsFrom}
use Rattle.slope_list.specs.Table.{IsPlace}

-- a difference of two values, or its sum with a third
abbrev pub IsTotal : ℤ → Type 0
IsTotal z = IsFrom (neg_ℤ (pos 8000000000000000000)) (pos 8000000000000000000) z

-- a level may go along a slope from one power to another
pub record CanGo (level slope from to : ℤ) : Type 0 where
  pub from_power : IsPlace from
  pub to_power : IsPlace to
  pub product : IsTotal (slope *ℤ (to -ℤ from))
  pub sum : IsTotal (level +ℤ slope *ℤ (to -ℤ from))
