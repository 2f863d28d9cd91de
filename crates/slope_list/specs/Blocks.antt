-- Where the blocks of a curve lie (this project's profile).
use Rattle.std.specs.Prelude.{◌≡◌, ℕ, zero, suc, ◌<◌, ℤ, pos, neg_ℤ, ◌+ℤ◌, ◌≤ℤ◌, List, [], ◌∷◌}
use Rattle.std.specs.Prelude.{length, Some, slice_index_or}
use Rattle.uc_model.specs.declared.units.Block.{Block}
use Rattle.uc_model.specs.declared.units.Curve.{Curve}
use Rattle.plain_lists.specs.Ranges.{IsFrom}
use Rattle.uc_model.specs.Limits.{IsCost}
use Rattle.slope_list.specs.Curve.{curve_value}
use Rattle.slope_list.specs.declared.blocks.Span.{Span}

-- the block at an index
abbrev pub block : List Block → ℕ → Block
block bs k = slice_index_or bs k (record { width = pos 0; price = pos 0 })

-- the width of the first j blocks
abbrev pub width_to : List Block → ℕ → ℤ
width_to bs zero = pos 0
width_to [] (suc j) = pos 0
width_to (b ∷ bs) (suc j) = b.width +ℤ width_to bs j

-- the power is in the block, from its start on, and the block ends there and has that price
pub record IsInBlock (c : Curve) (at : ℤ) (span : Span) : Type 0 where
  pub inside : span.index < length c.blocks.items
  pub begun : (c.at +ℤ width_to c.blocks.items span.index) ≤ℤ at
  pub ends : span.end ≡ c.at +ℤ width_to c.blocks.items (suc span.index)
  pub price : span.price ≡ (block c.blocks.items span.index).price

-- the price of a block in which the curve has costs
abbrev pub IsPrice : ℤ → Type 0
IsPrice z = IsFrom (neg_ℤ (pos 20000000000000)) (pos 20000000000000) z

-- the curve has a cost at each power from a to b
abbrev pub HasCosts : Curve → ℤ → ℤ → Type 0
HasCosts c a b = (x : ℤ) → a ≤ℤ x → x ≤ℤ b → (v : ℤ) × (curve_value c x ≡ Some v) × IsCost v
