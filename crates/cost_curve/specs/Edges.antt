-- How the envelope goes from point to point: at each whole price the cheapest point is the one
-- whose cost, less what its power is worth, is least (the conjugate of the points' costs at whole
-- prices: this project's profile).
use Rattle.std.specs.Prelude.{◌≡◌, ℕ, ◌<◌, ℤ, pos, ◌+ℤ◌, ◌-ℤ◌, ◌*ℤ◌, ◌<ℤ◌, ◌≤ℤ◌, Option}
use Rattle.std.specs.Prelude.{MatchOption, List, length, slice_index_or}
use Rattle.cost_curve.specs.declared.edges.Edge.{Edge}
use Rattle.uc_model.specs.declared.units.Point.{Point}

-- the point at an index
abbrev pub point_at : List Point → ℕ → Point
point_at ps k = slice_index_or ps k (record { at = pos 0; cost = pos 0 })

-- each of the first n points
abbrev pub AllFirst : ℕ → (Point → Type 0) → List Point → Type 0
AllFirst n P ps = (k : ℕ) → k < n → P (point_at ps k)

-- what a point costs less what its power is worth at a price
abbrev pub net_at : ℤ → Point → ℤ
net_at k p = p.cost -ℤ (k *ℤ p.at)

-- the price at which the second point begins to be no dearer than the first, and by how much it is
-- cheaper there
pub record IsSlope (q p : Point) (price width : ℤ) : Type 0 where
  pub meets : net_at price p +ℤ width ≡ net_at price q
  pub least : pos 0 ≤ℤ width
  pub most : width <ℤ (p.at -ℤ q.at)

-- from q the envelope goes on to p: of the first n points, p is the first of more power to be no
-- dearer than q as the price rises, the cheapest of them at that price, and the last of the
-- cheapest
pub record IsEdge (q : Point) (n : ℕ) (ps : List Point) (p : Point) (price width : ℤ) : Type 0 where
  pub rising : q.at <ℤ p.at
  pub slope : IsSlope q p price width
  pub before : AllFirst n (λ (l : Point). q.at <ℤ l.at →
      net_at (price -ℤ pos 1) q <ℤ net_at (price -ℤ pos 1) l) ps
  pub cheapest : AllFirst n (λ (l : Point). q.at <ℤ l.at → net_at price p ≤ℤ net_at price l) ps
  pub last : AllFirst n (λ (l : Point). p.at <ℤ l.at → net_at price p <ℤ net_at price l) ps

-- of the first n points none has more power than q
abbrev pub IsLast : Point → ℕ → List Point → Type 0
IsLast q n ps = AllFirst n (λ (l : Point). l.at ≤ℤ q.at) ps

-- the edge leads on from the point at an index, as far as the first n points tell
pub record LeadsOn (ps : List Point) (from n : ℕ) (e : Edge) : Type 0 where
  pub later : from < e.index
  pub within : e.index < n
  pub edge : IsEdge (point_at ps from) n ps (point_at ps e.index) e.slope.price e.slope.width

-- there is such an edge, or no point has more power
abbrev pub IsWayOn : List Point → ℕ → ℕ → Option Edge → Type 0
IsWayOn ps from n way = MatchOption way (IsLast (point_at ps from) n ps) (LeadsOn ps from n)

-- of the first n points q has the least power, and none of that power is cheaper
pub record IsStart (q : Point) (n : ℕ) (ps : List Point) : Type 0 where
  pub least : AllFirst n (λ (l : Point). q.at ≤ℤ l.at) ps
  pub cheapest : AllFirst n (λ (l : Point). l.at ≤ℤ q.at → q.cost ≤ℤ l.cost) ps

-- at this price no point is cheaper than q, and every point of more power is dearer
pub record IsVertex (ps : List Point) (price : ℤ) (q : Point) : Type 0 where
  pub cheapest : AllFirst (length ps) (λ (l : Point). net_at price q ≤ℤ net_at price l) ps
  pub last : AllFirst (length ps) (λ (l : Point). q.at <ℤ l.at →
      net_at price q <ℤ net_at price l) ps
