-- The first greatest of a list of numbers, or of its beginning.
use Rattle.std.specs.Prelude.{ℕ, ◌<◌, ℤ, ◌≤ℤ◌, ◌<ℤ◌, List}
use Rattle.plain_lists.specs.Sums.{int_at}

-- among the first so many numbers the one at the place is the greatest, and those before it are
-- smaller
pub record IsFirstUpTo (values : List ℤ) (count place : ℕ) : Type 0 where
  pub within : place < count
  pub greatest : (k : ℕ) → k < count → int_at values k ≤ℤ int_at values place
  pub first : (k : ℕ) → k < place → int_at values k <ℤ int_at values place
