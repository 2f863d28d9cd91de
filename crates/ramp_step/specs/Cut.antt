-- Parts of the interval, and knots between knots (this project's profile).
use Rattle.std.specs.Prelude.{◌≡◌, ℕ, ◌+◌, ◌<◌, ◌≤◌, ℤ, ◌+ℤ◌, ◌-ℤ◌, ◌*ℤ◌, ◌≤ℤ◌, ◌<ℤ◌, ◌⊎◌, List}
use Rattle.ramp_step.specs.declared.breakpoint.Knot.{Knot}
use Rattle.ramp_step.specs.Knots.{knot, power, height, StandFor, IsInside, HaveSameEnds, IsFar}
use Rattle.slope_list.specs.Table.{IsAmount}

-- a line with a whole slope goes from knot a to knot b, and x is a power on it
pub record IsOnLine (a b : Knot) (x : ℤ) : Type 0 where
  pub rise : a.at <ℤ b.at
  pub from : a.at ≤ℤ x
  pub to : x ≤ℤ b.at
  pub slope : ℤ
  pub whole : b.value ≡ a.value +ℤ slope *ℤ (b.at -ℤ a.at)

-- q is the knot at x on the line from a to b
pub record IsBetween (a b : Knot) (x : ℤ) (q : Knot) : Type 0 where
  pub at : q.at ≡ x
  pub value : (s : ℤ) → b.value ≡ a.value +ℤ s *ℤ (b.at -ℤ a.at) →
      q.value ≡ a.value +ℤ s *ℤ (x -ℤ a.at)
  pub amount : IsAmount q.value

-- both knots are within the limits
pub record AreWithin (a b : Knot) : Type 0 where
  pub power_a : IsFar a.at
  pub power_b : IsFar b.at
  pub amount_a : IsAmount a.value
  pub amount_b : IsAmount b.value

-- the first n knots are within the limits
pub record IsLimited (ks : List Knot) (n : ℕ) : Type 0 where
  pub powers : (k : ℕ) → k < n → IsFar (power ks k)
  pub amounts : (k : ℕ) → k < n → IsAmount (height ks k)

-- m is how many of the first n knots are below x
pub record AreBelow (ks : List Knot) (n : ℕ) (x : ℤ) (m : ℕ) : Type 0 where
  pub within : m ≤ n
  pub before : (k : ℕ) → k < m → power ks k <ℤ x
  pub after : m < n → x ≤ℤ power ks m

-- the same function on the powers of the interval that keep P
pub record IsCut (P : ℤ → Type 0) (ks : List Knot) (n : ℕ) (ks' : List Knot) (n' : ℕ) : Type 0 where
  pub function : (f : ℤ → ℤ) → StandFor ks n f → StandFor ks' n' f
  pub inside : (x : ℤ) → IsInside ks' n' x → IsInside ks n x × P x
  pub back : (x : ℤ) → IsInside ks n x → P x → IsInside ks' n' x

-- `by` knots of the first n are dropped from index `from` on
pub record AreDropped (from by_ n : ℕ) (ks ks' : List Knot) : Type 0 where
  pub before : (k : ℕ) → k < from → knot ks' k ≡ knot ks k
  pub moved : (k : ℕ) → from ≤ k → k + by_ < n → knot ks' k ≡ knot ks (k + by_)

-- a knot is put in before index m
pub record IsInserted (m n : ℕ) (q : Knot) (ks ks' : List Knot) : Type 0 where
  pub before : (k : ℕ) → k < m → knot ks' k ≡ knot ks k
  pub there : knot ks' m ≡ q
  pub after : (k : ℕ) → m ≤ k → k < n → knot ks' (k + 1) ≡ knot ks k

-- where the k-th part of the new interval lies in the old one
pub record IsPart (ks : List Knot) (n : ℕ) (ks' : List Knot) (k : ℕ) : Type 0 where
  pub old : ℕ
  pub bound : old + 1 < n
  pub from : power ks old ≤ℤ power ks' k
  pub to : power ks' (k + 1) ≤ℤ power ks (old + 1)
  pub rise : power ks' k <ℤ power ks' (k + 1)

-- the same function, where x is no power between two neighbours
pub record IsSplit (x : ℤ) (ks : List Knot) (n : ℕ) (ks' : List Knot) (n' : ℕ) : Type 0 where
  pub function : (f : ℤ → ℤ) → StandFor ks n f → StandFor ks' n' f
  pub apart : (k : ℕ) → k + 1 < n' → (power ks' (k + 1) ≤ℤ x) ⊎ (x ≤ℤ power ks' k)
  pub finer : (k : ℕ) → k + 1 < n' → IsPart ks n ks' k
  pub ends : HaveSameEnds ks n ks' n'
