-- Rows kept as runs: how often a value stands, and the value.
use Rattle.std.specs.Prelude.{◌≡◌, ℕ, ◌≤◌, List, [], ◌∷◌, ◌++◌, length, take, drop, replicate}

-- runs laid out, one behind the other
abbrev pub laid_out : {T : Type 0} → List ℕ → List T → List T
laid_out [] values = []
laid_out (n ∷ lengths) [] = []
laid_out (n ∷ lengths) (x ∷ values) = replicate n x ++ laid_out lengths values

-- the runs from a place on, laid out
abbrev pub from_run : {T : Type 0} → List ℕ → List T → ℕ → List T
from_run lengths values start = laid_out (drop start lengths) (drop start values)

-- the row of so many cells whose runs begin at an index
abbrev pub row_at : {T : Type 0} → ℕ → List ℕ → List T → ℕ → List T
row_at long lengths values start = take long (from_run lengths values start)

-- the second runs begin with the first, and those that they have beyond them, laid out, are a row
pub record IsAdded {T : Type 0} (lengths : List ℕ) (values : List T) (lengths2 : List ℕ) (values2 row : List T)
    : Type 0 where
  pub lengths_before : take (length lengths) lengths2 ≡ lengths
  pub values_before : take (length lengths) values2 ≡ values
  pub pairs : length lengths2 ≡ length values2
  pub laid : from_run lengths2 values2 (length lengths) ≡ row

-- in the second runs a row begins at an index, and each row of the first is where it was
pub record IsAt {T : Type 0} (lengths : List ℕ) (values : List T) (lengths2 : List ℕ) (values2 row : List T)
    (start : ℕ) : Type 0 where
  pub pairs : length lengths2 ≡ length values2
  pub there : row_at (length row) lengths2 values2 start ≡ row
  pub whole : length row ≤ length (from_run lengths2 values2 start)
  pub stays : (long k : ℕ) → long ≤ length (from_run lengths values k) →
      (long ≤ length (from_run lengths2 values2 k)) × (row_at long lengths2 values2 k ≡ row_at long lengths values k)
