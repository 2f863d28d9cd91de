-- Cells of a home, and what a call on one shape leaves of them (this project's profile).
use Rattle.std.specs.Prelude.{◌≡◌, ℕ, ◌≤◌, ◌+◌, ℤ, Bool, true, ◌⊎◌, List, [], ◌∷◌, slice_get}
use Rattle.std.specs.Prelude.{Option, Some}
use Rattle.std.specs.Option.{option_map}
use Rattle.slope_list.specs.Table.{Table}

-- a cell: whether it is in use, and its numbers
pub record Cell : Type 0 where
  pub in_use : Bool
  pub contents : List ℤ

-- cell n is in use
abbrev pub IsUsed : List Cell → ℕ → Type 0
IsUsed cells n = (c : Cell) × (slice_get cells n ≡ Some c) × (c.in_use ≡ true)

-- the number stands in the list
abbrev pub IsAmong : ℕ → List ℕ → Type 0
IsAmong n [] = ⊥
IsAmong n (x ∷ xs) = (n ≡ x) ⊎ IsAmong n xs

-- the numbers differ
abbrev pub AreDistinct : List ℕ → Type 0
AreDistinct [] = Unit {0}
AreDistinct (x ∷ xs) = (IsAmong x xs → ⊥) × AreDistinct xs

-- no number stands in both lists
abbrev pub AreApart : List ℕ → List ℕ → Type 0
AreApart xs ys = (n : ℕ) → IsAmong n xs → IsAmong n ys → ⊥

-- the contents of a cell, if there is one of that number
abbrev pub contents_at : List Cell → ℕ → Option (List ℤ)
contents_at cells n = option_map (λ (c : Cell). c.contents) (slice_get cells n)

-- the contents at these numbers are equal in both states
abbrev pub AreSameAt : List ℕ → List Cell → List Cell → Type 0
AreSameAt own cells cells' = (n : ℕ) → IsAmong n own → contents_at cells' n ≡ contents_at cells n

-- what a shape in a home owns: different cells, all in use
pub record Owns (cells : List Cell) (own : List ℕ) : Type 0 where
  pub used : (n : ℕ) → IsAmong n own → IsUsed cells n
  pub distinct : AreDistinct own

-- in a home that counts, a charged call takes its cells from those that the home can give
pub record Balance (counts : Bool) (charge sure cells sure' cells' : ℕ) : Type 0 where
  pub most : counts ≡ true → cells' ≤ cells + charge
  pub sum : counts ≡ true → sure' + cells' ≡ sure + cells

module _ {H S : Type 0} (cell_list : H → List Cell) (is_in : H → S → Type 0) (numbers : H → S →
    List ℕ) where
  -- what a call leaves of the other shapes: `own` are the numbers of the call's shape before it,
  -- and `own'` after it
  pub record Frame (own own' : List ℕ) (h h' : H) : Type 0 where
    -- a cell in use changes only where it is one of the shape's own
    pub changes : (n : ℕ) → IsUsed (cell_list h) n → (IsAmong n own → ⊥) →
        slice_get (cell_list h') n ≡ slice_get (cell_list h) n
    -- new numbers come from the free ones
    pub gains : (n : ℕ) → IsAmong n own' → (IsAmong n own → ⊥) → IsUsed (cell_list h) n → ⊥
    -- each shape that is apart from it stays in the home
    pub stays : (other : S) → is_in h other → AreApart own (numbers h other) → is_in h' other

-- a refused call leaves what is seen of the shape and the home
module _ {H S : Type 0} (function : H → S → Table) (numbers : H → S → List ℕ) (cells : S → ℕ) where
  pub record IsUnchanged (h : H) (s : S) (h' : H) (s' : S) : Type 0 where
    pub home_same : h' ≡ h
    pub function_same : function h' s' ≡ function h s
    pub numbers_same : numbers h' s' ≡ numbers h s
    pub cells_same : cells s' ≡ cells s
