-- The bytes of a string that stand for themselves.
use Rattle.std.specs.Prelude.{ℕ, ◌==◌, ◌&&◌, Bool, not, nat_le}

abbrev pub is_plain : ℕ → Bool
is_plain b = nat_le 32 b && not (b == 34) && not (b == 92)
