-- The cells of a chain of calls.
use Rattle.test_shapes.proofs.Common.{◌≡◌, ℕ, ◌+◌, ◌-◌, ◌*◌, ◌≤◌, List, [], ◌∷◌, ap, arith, Table}
use Rattle.std.proofs.Math.Nat.{mul-le-mul_right}
use Rattle.test_shapes.specs.Chain.{Call, AddCurve, AddLine, AddReserve, Window, charge_of, charges_of, curves_in}
use Rattle.test_shapes.specs.Chain.{kinks_in, windows_in, AreCurvesOf, CellsAreCharged, CellsAreBounded}

-- the charges, where no curve has more than so many blocks
charges_bounded : (points : ℕ) (calls : List Call) → AreCurvesOf points calls
    → charges_of calls ≤ curves_in calls * (2 * (points - 1)) + (kinks_in calls + 4 * windows_in calls)
charges_bounded points [] few = omega arith
charges_bounded points (AddCurve curve shift ∷ calls) few = let rest = charges_bounded points calls few.1 in
    let first = few.0 in omega arith
charges_bounded points (AddLine slope ∷ calls) few = let rest = charges_bounded points calls few in omega arith
charges_bounded points (AddReserve mu most up ∷ calls) few = let rest = charges_bounded points calls few in omega arith
charges_bounded points (Window up down lo hi ∷ calls) few = let rest = charges_bounded points calls few in omega arith

module _ {H S : Type 0} (function : H → S → Table) (charged : ℕ → H → S → H → S → Type 0) (cells : S → ℕ)
    (most : (charge : ℕ) (h : H) (s : S) (h' : H) (s' : S) → charged charge h s h' s' →
    cells s' ≤ cells s + charge) where
  pub charged_by : CellsAreCharged function charged cells
  charged_by [] h h' s s' made = let e : cells s' ≡ cells s = ap cells made.1 in omega arith
  charged_by (call ∷ calls) h h' s s' made =
      let first = most (charge_of call) h s made.0 made.1 made.2.charge in
      let rest = charged_by calls made.0 h' made.1 s' made.3 in
      omega arith

  pub bounded_by : CellsAreBounded function charged cells
  bounded_by points count calls power value h h' s s' some of few is one made =
      let all = charged_by calls h h' s s' made in
      let sum = charges_bounded points calls of in
      let curves = mul-le-mul_right (2 * (points - 1)) few.curves in
      let kinks = few.kinks in
      let windows = few.windows in
      let width : 2 * points + 3 ≡ 2 * (points - 1) + 5 = omega arith in
      let product : count * (2 * points + 3) ≡ count * (2 * (points - 1) + 5) = ap (λ w. count * w) width in
      omega arith
