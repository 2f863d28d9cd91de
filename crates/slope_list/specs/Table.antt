-- A function on a whole interval: its first power and its values (this project's profile). What a
-- call promises of it is said of the look-up alone, so the first power of an empty interval is
-- free.
use Rattle.std.specs.Prelude.{◌≡◌, ℕ, ◌+◌, ◌<◌, ℤ, pos, negsuc, ◌+ℤ◌, ◌-ℤ◌, ◌≤ℤ◌, List, length}
use Rattle.std.specs.Prelude.{slice_get, slice_index_or, Option, Some, None}

pub record Table : Type 0 where
  -- the first power, in kilowatts
  pub lo : ℤ
  -- the value at each power from there on, in millionths of the currency
  pub values : List ℤ

-- the value at an offset from the first power
abbrev pub offset_value : List ℤ → ℤ → Option ℤ
offset_value values (pos k) = slice_get values k
offset_value values (negsuc k) = None

-- the look-up: the value at a power, if the power is in the interval
abbrev pub value_of : Table → ℤ → Option ℤ
value_of f x = offset_value f.values (x -ℤ f.lo)

-- the interval has no power
abbrev pub IsEmpty : Table → Type 0
IsEmpty f = (x : ℤ) → value_of f x ≡ None

-- no power from lo to hi is in the interval
abbrev pub HasNone : ℤ → ℤ → Table → Type 0
HasNone lo hi f = (x : ℤ) → lo ≤ℤ x → x ≤ℤ hi → value_of f x ≡ None

-- no slope is below the one before it: the second differences aren't negative
abbrev pub IsConvexList : List ℤ → Type 0
IsConvexList values =
    (k : ℕ) → k + 2 < length values →
    (slice_index_or values (k + 1) (pos 0) +ℤ slice_index_or values (k + 1) (pos 0))
    ≤ℤ (slice_index_or values k (pos 0) +ℤ slice_index_or values (k + 2) (pos 0))

abbrev pub IsConvex : Table → Type 0
IsConvex f = IsConvexList f.values

-- a power within 4 * 10^9
abbrev pub IsPlace : ℤ → Type 0
IsPlace x = (negsuc 3999999999 ≤ℤ x) × (x ≤ℤ pos 4000000000)

-- a value within 10^18
abbrev pub IsAmount : ℤ → Type 0
IsAmount v = (negsuc 999999999999999999 ≤ℤ v) × (v ≤ℤ pos 1000000000000000000)

-- all powers and values are within the limits
abbrev pub IsWithinLimits : Table → Type 0
IsWithinLimits f = (x v : ℤ) → value_of f x ≡ Some v → IsPlace x × IsAmount v

-- a term may be added at every power: the values stay within the limits
abbrev pub CanAdd : (ℤ → ℤ) → Table → Type 0
CanAdd term f = (x v : ℤ) → value_of f x ≡ Some v → IsAmount (v +ℤ term x)
