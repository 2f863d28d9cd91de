-- The values of a function, which stand from its first power on.
use Rattle.std.specs.Prelude.{◌≡◌, ℕ, ◌<◌, ℤ, pos, ◌+ℤ◌, ◌≤ℤ◌, ◌<ℤ◌, List, length, slice_index_or}
use Rattle.slope_list.specs.Table.{Table, IsPlace, IsAmount}

abbrev pub table : ℤ → List ℤ → Table
table lo values = record { lo = lo; values = values }

-- powers and values are within the limits, index by index
pub record AreWithin (lo : ℤ) (values : List ℤ) : Type 0 where
  pub powers : (k : ℕ) → k < length values → IsPlace (lo +ℤ pos k)
  pub amounts : (k : ℕ) → k < length values → IsAmount (slice_index_or values k (pos 0))

-- v is the least of the values, first at index i
pub record IsLeastOf (values : List ℤ) (v : ℤ) (i : ℕ) : Type 0 where
  pub inside : i < length values
  pub there : slice_index_or values i (pos 0) ≡ v
  pub least : (k : ℕ) → k < length values → v ≤ℤ slice_index_or values k (pos 0)
  pub first : (k : ℕ) → k < i → v <ℤ slice_index_or values k (pos 0)
