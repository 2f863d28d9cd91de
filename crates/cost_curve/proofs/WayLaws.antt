-- The search for the way on, and for the first point, at one more point.
use Rattle.cost_curve.proofs.Common.{◌≡◌, ℕ, ◌+◌, ◌<◌, ◌≤ℤ◌, ◌<ℤ◌, Option, Some, None, List, length, ap, subst, arith}
use Rattle.cost_curve.proofs.Common.{ints, Point, AreCostPoints, point_at, IsSlope, LeadsOn, IsWayOn, IsStart}
use Rattle.cost_curve.specs.declared.edges.Edge.{Edge}
use Rattle.cost_curve.specs.declared.edges.Slope.{Slope}
use Rattle.cost_curve.proofs.EdgeLaws.{more, ordered_powers, IsBetter, IsWorse, IsEdge-first, IsEdge-passes}
use Rattle.cost_curve.proofs.EdgeLaws.{IsEdge-keeps, IsEdge-takes}

module _ (ps : List Point) (from n : ℕ) where
  pub IsWayOn-passes : (found : Option Edge) → IsWayOn ps from n found → (point_at ps n).at ≤ℤ (point_at ps from).at →
      IsWayOn ps from (n + 1) found
  IsWayOn-passes None last low = more (λ l. l.at ≤ℤ (point_at ps from).at) ps n last low
  IsWayOn-passes (Some e) way low = record {
    later = way.later;
    within = omega (arith, way.within);
    edge = IsEdge-passes (point_at ps from) ps n (point_at ps e.index) e.slope.price e.slope.width way.edge low;
  }

  module _ (later : from < n) (s : Slope) (slope : IsSlope (point_at ps from) (point_at ps n) s.price s.width)
      (rising : (point_at ps from).at <ℤ (point_at ps n).at) (found : Option Edge) (way : IsWayOn ps from n found) where
    pub LeadsOn-first : found ≡ None → LeadsOn ps from (n + 1) (record { index = n; slope = s })
    LeadsOn-first none = record {
      later = later;
      within = omega arith;
      edge = IsEdge-first (point_at ps from) ps n s.price s.width (subst (IsWayOn ps from n) none way) rising slope;
    }

    module _ (e : Edge) (found_is : found ≡ Some e) where
      old : LeadsOn ps from n e
      old = subst (IsWayOn ps from n) found_is way

      pub LeadsOn-takes : AreCostPoints ps → n < length ps → IsBetter e.slope.price e.slope.width s.price s.width →
          LeadsOn ps from (n + 1) (record { index = n; slope = s })
      LeadsOn-takes are lt better =
          let o = old in
          record {
            later = later;
            within = omega arith;
            edge = IsEdge-takes (point_at ps from) ps n (point_at ps e.index) e.slope.price e.slope.width o.edge s.price
                s.width slope rising
                (ordered_powers ps are.ordered e.index n (omega (arith, o.within)) lt) better;
          }

      pub LeadsOn-keeps : IsWorse e.slope.price e.slope.width s.price s.width → LeadsOn ps from (n + 1) e
      LeadsOn-keeps worse =
          let o = old in
          record {
            later = o.later;
            within = omega (arith, o.within);
            edge = IsEdge-keeps (point_at ps from) ps n (point_at ps e.index) e.slope.price e.slope.width o.edge s.price
                s.width slope rising worse;
          }

pub IsWayOn-none : (ps : List Point) (from : ℕ) → AreCostPoints ps → from < length ps → IsWayOn ps from (from + 1) None
IsWayOn-none ps from are lt = λ k le. ordered_powers ps are.ordered k from (omega arith) lt

-- ---- the first point

module _ (ps : List Point) (best n : ℕ) (start : IsStart (point_at ps best) n ps) where
  pub IsStart-keeps : (point_at ps best).at ≤ℤ (point_at ps n).at →
      ((point_at ps n).at ≤ℤ (point_at ps best).at → (point_at ps best).cost ≤ℤ (point_at ps n).cost) →
      IsStart (point_at ps best) (n + 1) ps
  IsStart-keeps least cheap = record {
    least = more (λ l. (point_at ps best).at ≤ℤ l.at) ps n start.least least;
    cheapest = more (λ l. l.at ≤ℤ (point_at ps best).at → (point_at ps best).cost ≤ℤ l.cost) ps n start.cheapest cheap;
  }

  pub IsStart-takes : (point_at ps n).at ≤ℤ (point_at ps best).at → (point_at ps best).at ≤ℤ (point_at ps n).at →
      (point_at ps n).cost <ℤ (point_at ps best).cost → IsStart (point_at ps n) (n + 1) ps
  IsStart-takes low high cheaper = record {
    least = more (λ l. (point_at ps n).at ≤ℤ l.at) ps n
        (λ k lt. let h = start.least k lt in omega (arith, ints, h, low, high)) (omega (arith, ints));
    cheapest = more (λ l. l.at ≤ℤ (point_at ps n).at → (point_at ps n).cost ≤ℤ l.cost) ps n
        (λ k lt below. let h = start.cheapest k lt (omega (arith, ints, below, low)) in omega (arith, ints, h, cheaper))
        (λ below. omega (arith, ints));
  }

pub IsStart-one : (ps : List Point) → IsStart (point_at ps 0) 1 ps
IsStart-one ps = record {
  least = λ k lt. let e : k ≡ 0 = omega arith in let h = ap (λ j. (point_at ps j).at) e in omega (arith, ints, h);
  cheapest = λ k lt low. let e : k ≡ 0 = omega arith in let h = ap (λ j. (point_at ps j).cost) e in
      omega (arith, ints, h);
}
