-- A curve of blocks, each with a width and a price, as a function on all powers (this project's
-- profile).
use Rattle.std.specs.Prelude.{ℕ, zero, suc, ◌+◌, ◌<◌, ◌≤◌, ℤ, pos, ◌+ℤ◌, ◌-ℤ◌, ◌*ℤ◌, ◌≤ℤ◌, ◌⊎◌}
use Rattle.std.specs.Prelude.{List, [], ◌∷◌, length}
use Rattle.std.specs.Int.{int_min, int_max}
use Rattle.ramp_step.specs.declared.breakpoint.Knot.{Knot}
use Rattle.uc_model.specs.declared.units.Block.{Block}
use Rattle.ramp_step.specs.Knots.{power, StandFor, IsInside, HaveSameEnds, IsWide}
use Rattle.slope_list.specs.Table.{IsAmount}

-- the rise from power s to power x over blocks that begin at s
abbrev pub rise_over : List Block → ℤ → ℤ → ℤ
rise_over [] s x = pos 0
rise_over (b ∷ bs) s x =
    b.price *ℤ int_min (x -ℤ s) b.width +ℤ rise_over bs (s +ℤ b.width) (int_max x (s +ℤ b.width))

-- the value at x of a curve that begins at power s with a value
abbrev pub curve_term : ℤ → List Block → ℤ → ℤ → ℤ
curve_term v bs s x = v +ℤ rise_over bs s x

-- where the first j blocks end
abbrev pub block_end : List Block → ℤ → ℕ → ℤ
block_end bs s zero = s
block_end [] s (suc j) = s
block_end (b ∷ bs) s (suc j) = block_end bs (s +ℤ b.width) j

-- widths aren't negative, and prices don't fall, from price p on
abbrev pub AreBlocks : ℤ → List Block → Type 0
AreBlocks p [] = Unit {0}
AreBlocks p (b ∷ bs) = (p ≤ℤ b.price) × (pos 0 ≤ℤ b.width) × AreBlocks b.price bs

-- no block of the first j ends between lo and hi
abbrev pub EndsOutside : List Block → ℤ → ℕ → ℤ → ℤ → Type 0
EndsOutside bs s j lo hi =
    (i : ℕ) → i < j → (hi ≤ℤ block_end bs s (suc i)) ⊎ (block_end bs s (suc i) ≤ℤ lo)

-- the same function, and none of the first j blocks ends between two neighbours
pub record IsRefined (bs : List Block) (s : ℤ) (j : ℕ) (ks : List Knot) (n : ℕ) (ks' : List Knot)
    (n' : ℕ) : Type 0 where
  pub function : (f : ℤ → ℤ) → StandFor ks n f → StandFor ks' n' f
  pub apart : (k : ℕ) → k + 1 < n' → EndsOutside bs s j (power ks' k) (power ks' (k + 1))
  pub ends : HaveSameEnds ks n ks' n'

-- widths aren't negative, prices don't fall, and the block ends and the values there are within the
-- limits
pub record AreLimitedBlocks (v : ℤ) (bs : List Block) (s : ℤ) : Type 0 where
  pub lowest : ℤ
  pub blocks : AreBlocks lowest bs
  pub ends : (j : ℕ) → j ≤ length bs → IsWide (block_end bs s j)
  pub values : (j : ℕ) → j ≤ length bs → IsAmount (curve_term v bs s (block_end bs s j))

-- each power of the interval is on the blocks
abbrev pub IsOver : List Block → ℤ → List Knot → ℕ → Type 0
IsOver bs s ks n = (x : ℤ) → IsInside ks n x → (s ≤ℤ x) × (x ≤ℤ block_end bs s (length bs))
