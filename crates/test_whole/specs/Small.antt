-- What the tests check before they make a call.
use Rattle.std.specs.Prelude.{◌≡◌, ℕ, suc, ◌<◌, ℤ, pos, neg_ℤ, ◌≤ℤ◌, List, slice_index_or, Some}
use Rattle.uc_model.specs.declared.units.Block.{Block}
use Rattle.plain_lists.specs.Ranges.{IsFrom}
use Rattle.slope_list.specs.Table.{Table, value_of}

-- each place is within 1,000 of 0
abbrev pub IsNear : ℤ → Type 0
IsNear x = IsFrom (neg_ℤ (pos 1000)) (pos 1000) x

-- and each value within 10^12
pub record IsSmall (f : Table) : Type 0 where
  pub places : (x v : ℤ) → value_of f x ≡ Some v → IsNear x
  pub values : (x v : ℤ) → value_of f x ≡ Some v
      → IsFrom (neg_ℤ (pos 1000000000000)) (pos 1000000000000) v

-- the value at x is within 10^12, if there is one
pub record IsModestAt (f : Table) (x : ℤ) : Type 0 where
  pub most : (v : ℤ) → value_of f x ≡ Some v
      → IsFrom (neg_ℤ (pos 1000000000000)) (pos 1000000000000) v

-- the first k blocks are short, and their prices small and not below the one before
pub record AreFair (bs : List Block) (k : ℕ) : Type 0 where
  pub widths : (i : ℕ) (d : Block) → i < k → IsFrom (pos 0) (pos 1000) (slice_index_or bs i d).width
  pub prices : (i : ℕ) (d : Block) → i < k
      → IsFrom (neg_ℤ (pos 1000000)) (pos 1000000) (slice_index_or bs i d).price
  pub rising : (i : ℕ) (d : Block) → suc i < k
      → (slice_index_or bs i d).price ≤ℤ (slice_index_or bs (suc i) d).price
