-- Ranges of whole numbers.
use Rattle.std.specs.Prelude.{ℤ, ◌≤ℤ◌}

-- x is from low to high
pub record IsFrom (low high x : ℤ) : Type 0 where
  pub at_least : low ≤ℤ x
  pub at_most : x ≤ℤ high
