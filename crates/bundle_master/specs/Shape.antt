-- What a contract sees of a master problem.
use Rattle.std.specs.Prelude.{ℕ, ◌≡◌, ◌+◌, ◌*◌, ◌-◌, ◌≤◌, List, All, max, slice_index_or, slice_set}
use Rattle.bundle_master.specs.UnitShape.{UnitShape, AreOver, AreBelow}

pub record Shape : Type 0 where
  pub periods : ℕ
  pub thermal : ℕ
  -- columns that a thermal unit has room for
  pub places : ℕ
  -- variables of one row: how many there are, and how many more fit
  pub singles : ℕ
  pub room : ℕ
  -- how many columns each thermal unit has
  pub counts : List ℕ

abbrev pub count_of : Shape → ℕ → ℕ
count_of s unit = slice_index_or s.counts unit 0

-- a column at an index of a unit is added or replaced
abbrev pub with_column : Shape → ℕ → ℕ → Shape
with_column s unit index =
    record s { counts = slice_set s.counts unit (max (count_of s unit) (index + 1)) }

-- one more variable of one row
abbrev pub with_single : Shape → Shape
with_single s = record s { singles = s.singles + 1; room = s.room - 1 }

-- what the parts of a master problem over so many periods are, with so many places for each unit
pub record AreParts (horizon room : ℕ) (units : List UnitShape) (singles : List ℕ)
    (row_count price_count step_count left_count right_count matrix_rows : ℕ) : Type 0 where
  pub some : 1 ≤ room
  pub periods : horizon ≤ 1000
  pub places : All (λ (u : UnitShape). u.places ≡ room) units
  pub unit_rows : AreOver (2 * horizon) units
  pub single_rows : AreBelow (2 * horizon) singles
  pub rows : row_count ≡ 2 * horizon
  pub prices : price_count ≡ 2 * horizon
  pub steps : step_count ≡ 2 * horizon
  pub left : left_count ≡ 2 * horizon
  pub right : right_count ≡ 2 * horizon
  pub matrix : matrix_rows ≡ 2 * horizon
