-- The n-th opening price from a start price (this project's profile).
use Rattle.std.specs.Prelude.{ℕ, ◌+◌, ℤ, pos, neg_ℤ, ◌*ℤ◌}
use Rattle.uc_model.specs.Limits.{price_limit}
use Rattle.plain_lists.specs.Sums.{floor_div, clamped}

-- (7 + n) / 8 of it, rounded down and kept within the limits of a price
unfoldable pub opened : ℕ → ℤ → ℤ
opened n start = clamped (neg_ℤ price_limit) price_limit (floor_div (start *ℤ pos (7 + n)) 8)
