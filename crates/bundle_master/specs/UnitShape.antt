-- What a contract sees of a thermal unit's columns, and of lists of units and of variables of one row.
use Rattle.std.specs.Prelude.{ℕ, ◌≡◌, ◌<◌, List, All}

pub record UnitShape : Type 0 where
  -- how many columns there are, and for how many there is room
  pub count : ℕ
  pub places : ℕ
  -- rows of a column
  pub rows : ℕ

-- all units have so many rows
abbrev pub AreOver : ℕ → List UnitShape → Type 0
AreOver rows units = All (λ (u : UnitShape). u.rows ≡ rows) units

-- the rows of all variables are below a number
abbrev pub AreBelow : ℕ → List ℕ → Type 0
AreBelow rows singles = All (λ (row : ℕ). row < rows) singles
