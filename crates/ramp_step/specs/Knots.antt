-- What a slice of knots stands for (this project's profile).
use Rattle.std.specs.Prelude.{◌≡◌, ℕ, ◌+◌, ◌-◌, ◌<◌, ℤ, pos, negsuc, ◌+ℤ◌, ◌-ℤ◌, ◌≤ℤ◌, ◌<ℤ◌, List}
use Rattle.std.specs.Prelude.{slice_index_or}
use Rattle.ramp_step.specs.declared.breakpoint.Knot.{Knot}
use Rattle.slope_list.specs.Table.{IsPlace, IsAmount}

-- the knot at an index
abbrev pub knot : List Knot → ℕ → Knot
knot ks k = slice_index_or ks k (record { at = pos 0; value = pos 0 })

abbrev pub power : List Knot → ℕ → ℤ
power ks k = (knot ks k).at

abbrev pub height : List Knot → ℕ → ℤ
height ks k = (knot ks k).value

-- f is straight from a to b: at each power between them it is the mean of its neighbours
abbrev pub IsStraight : ℤ → ℤ → (ℤ → ℤ) → Type 0
IsStraight a b f = (x : ℤ) → a <ℤ x → x <ℤ b → (f x +ℤ f x) ≡ (f (x -ℤ pos 1) +ℤ f (x +ℤ pos 1))

-- f is convex from a to b: no slope is below the one before it
abbrev pub IsConvex : ℤ → ℤ → (ℤ → ℤ) → Type 0
IsConvex a b f = (x : ℤ) → a <ℤ x → x <ℤ b → (f x +ℤ f x) ≤ℤ (f (x -ℤ pos 1) +ℤ f (x +ℤ pos 1))

-- the first n powers rise, f meets the heights there, is straight between neighbours, and convex
pub record Joins (n : ℕ) (p v : ℕ → ℤ) (f : ℤ → ℤ) : Type 0 where
  pub rise : (k : ℕ) → k + 1 < n → p k <ℤ p (k + 1)
  pub meet : (k : ℕ) → k < n → v k ≡ f (p k)
  pub straight : (k : ℕ) → k + 1 < n → IsStraight (p k) (p (k + 1)) f
  pub convex : IsConvex (p 0) (p (n - 1)) f

-- the first n knots stand for f, from the first power to the last
abbrev pub StandFor : List Knot → ℕ → (ℤ → ℤ) → Type 0
StandFor ks n f = Joins n (power ks) (height ks) f

-- the first n knots are a convex function with whole values: powers rise, slopes are whole and
-- don't fall
abbrev pub IsShape : List Knot → ℕ → Type 0
IsShape ks n = (f : ℤ → ℤ) × StandFor ks n f

-- x is a power of the interval of the first n knots
pub record IsInside (ks : List Knot) (n : ℕ) (x : ℤ) : Type 0 where
  pub some : 0 < n
  pub from_first : power ks 0 ≤ℤ x
  pub to_last : x ≤ℤ power ks (n - 1)

-- the same interval
pub record HaveSameEnds (ks : List Knot) (n : ℕ) (ks' : List Knot) (n' : ℕ) : Type 0 where
  pub some : 0 < n → 0 < n'
  pub none : n ≡ 0 → n' ≡ 0
  pub first : 0 < n → power ks' 0 ≡ power ks 0
  pub last : 0 < n → power ks' (n' - 1) ≡ power ks (n - 1)

-- a power that may be further out by the length of one move
abbrev pub IsFar : ℤ → Type 0
IsFar x = (negsuc 7999999999 ≤ℤ x) × (x ≤ℤ pos 8000000000)

-- a power of a curve that is moved by a shift
abbrev pub IsWide : ℤ → Type 0
IsWide x = (negsuc 15999999999 ≤ℤ x) × (x ≤ℤ pos 16000000000)

-- the term may be added: powers and values are within the limits, before and after
abbrev pub CanAdd : (ℤ → ℤ) → List Knot → ℕ → (ℤ → ℤ) → Type 0
CanAdd term ks n f =
    (x : ℤ) → IsInside ks n x → IsPlace x × IsAmount (f x) × IsAmount (f x +ℤ term x)

-- each of the first n heights is raised by the term at its power
pub record AreRaised (term : ℤ → ℤ) (n : ℕ) (ks ks' : List Knot) : Type 0 where
  pub powers : (k : ℕ) → k < n → power ks' k ≡ power ks k
  pub heights : (k : ℕ) → k < n → height ks' k ≡ height ks k +ℤ term (power ks k)
