-- How large an amount of money is that a text tells of a run (this project's profile).
use Rattle.std.specs.Prelude.{ℤ, pos, neg_ℤ}
use Rattle.plain_lists.specs.Ranges.{IsFrom}

-- a value or a bound, at most 10^35 in magnitude: any bound that is certified round a row
abbrev pub IsTold : ℤ → Type 0
IsTold x =
    IsFrom (neg_ℤ (pos 100000000000000000000000000000000000))
    (pos 100000000000000000000000000000000000) x
