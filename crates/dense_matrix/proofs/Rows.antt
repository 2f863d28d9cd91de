-- Where a row of a table ends.
use Rattle.std.proofs.Common.{ℕ, ◌+◌, ◌*◌, ◌<◌, ◌≤◌, arith}

-- the end of a row is within the entries
pub row_end : (row height width : ℕ) → row < height → row * width + width ≤ height * width
row_end row height width below = grind arith
