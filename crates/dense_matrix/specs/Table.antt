-- What a contract sees of a table.
use Rattle.std.specs.Prelude.{ℕ}

-- how many rows, and how long each is
pub record Extent : Type 0 where
  pub height : ℕ
  pub width : ℕ
