-- Lists of cells in a pool: each cell has the number of the next (this project's profile).
use Rattle.std.specs.Prelude.{◌≡◌, ℕ, zero, suc, ◌<◌, pos, true, false, List, [], ◌∷◌, length, map}
use Rattle.std.specs.Prelude.{slice_index_or}
use Rattle.std.specs.Coded.{×_prop, Unit-prop}
use mathlib.Core.HLevel.{¬_prop}
use Rattle.test_shapes.specs.Cell.{Cell, IsAmong, AreDistinct}
use Rattle.ramp_step.specs.declared.breakpoint.Knot.{Knot}
use Rattle.point_pool.specs.declared.slot.Slot.{Slot}

-- what stands past the last cell
abbrev pub no_slot : Slot
no_slot = record { in_use = false; next = 0; knot = record { at = pos 0; value = pos 0 } }

abbrev pub slot_at : List Slot → ℕ → Slot
slot_at slots n = slice_index_or slots n no_slot

-- the numbers of n cells, from one on
abbrev pub walk : List Slot → ℕ → ℕ → List ℕ
walk slots head zero = []
walk slots head (suc n) = head ∷ walk slots (slot_at slots head).next n

-- the breakpoints at these numbers
abbrev pub knots_at : List Slot → List ℕ → List Knot
knots_at slots own = map (λ n. (slot_at slots n).knot) own

-- a slot as a cell, with all its numbers
abbrev pub cell_of : Slot → Cell
cell_of s = record { in_use = s.in_use; contents = pos s.next ∷ s.knot.at ∷ s.knot.value ∷ [] }

-- the cells at these numbers are in use, and differ
pub record AreUsed (slots : List Slot) (own : List ℕ) : Type 0 where
  pub used : (n : ℕ) → IsAmong n own → (slot_at slots n).in_use ≡ true
  pub distinct : AreDistinct own

-- the cells at these numbers aren't in use, and differ
pub record AreFree (slots : List Slot) (own : List ℕ) : Type 0 where
  pub inside : (n : ℕ) → IsAmong n own → n < length slots
  pub unused : (n : ℕ) → IsAmong n own → (slot_at slots n).in_use ≡ false
  pub distinct : AreDistinct own

pub AreDistinct-prop : (xs : List ℕ) → IsProp (AreDistinct xs)
AreDistinct-prop [] = Unit-prop
AreDistinct-prop (x ∷ xs) = ×_prop ¬_prop (AreDistinct-prop xs)

-- breakpoints stored in cells that weren't in use: what is new, and what stays
pub record Stored (slots slots' : List Slot) (own : List ℕ) (knots : List Knot) : Type 0 where
  pub used : AreUsed slots' own
  pub holds : knots_at slots' own ≡ knots
  pub fresh : (n : ℕ) → IsAmong n own → (slot_at slots n).in_use ≡ false
  pub kept : (n : ℕ) → (slot_at slots n).in_use ≡ true → slot_at slots' n ≡ slot_at slots n

-- cells given back: what isn't in use any more, and what stays
pub record Released (slots slots' : List Slot) (own : List ℕ) : Type 0 where
  pub unused : (n : ℕ) → IsAmong n own → (slot_at slots' n).in_use ≡ false
  pub kept : (n : ℕ) → (slot_at slots n).in_use ≡ true → (IsAmong n own → ⊥) →
      slot_at slots' n ≡ slot_at slots n
  pub free : (n : ℕ) → (slot_at slots n).in_use ≡ false → (slot_at slots' n).in_use ≡ false

-- of the cells in use only the own ones change, and new ones weren't in use
pub record Changes (slots slots' : List Slot) (own own' : List ℕ) : Type 0 where
  pub kept : (n : ℕ) → (slot_at slots n).in_use ≡ true → (IsAmong n own → ⊥) →
      slot_at slots' n ≡ slot_at slots n
  pub gains : (n : ℕ) → IsAmong n own' → (IsAmong n own → ⊥) → (slot_at slots n).in_use ≡ true → ⊥

-- breakpoints stored in the place of a list that is given back
pub record Replaced (slots slots' : List Slot) (own own' : List ℕ) (knots : List Knot) : Type
    0 where
  pub changes : Changes slots slots' own own'
  pub used : AreUsed slots' own'
  pub holds : knots_at slots' own' ≡ knots
