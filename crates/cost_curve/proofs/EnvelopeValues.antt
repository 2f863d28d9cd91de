-- What the envelope is at a vertex and on an edge, and what it earns at a price.
use Rattle.cost_curve.proofs.Common.{◌≡◌, ℕ, zero, suc, ◌<◌, ◌≤◌, ◌⊎◌, inl, inr, ℤ, pos, ◌+ℤ◌, ◌-ℤ◌, ◌*ℤ◌, ◌≤ℤ◌, List}
use Rattle.cost_curve.proofs.Common.{[], ◌∷◌, map, length, Some, refl, sym, ap, ◌∙◌, subst, arith, ints, clamps}
use Rattle.cost_curve.proofs.Common.{fold-int_min_bounds, fold-int_max_bounds, get_or_default, get_or-map, length-map}
use Rattle.cost_curve.proofs.Common.{*ℤ_comm, All, fold, reduce, int_min, int_max, unwrap_or, Point, line_at}
use Rattle.cost_curve.proofs.Common.{least_line, IsEnvelope, envelope, EnvelopeIsGreatest, EnvelopeEarnsAsPoints}
use Rattle.cost_curve.proofs.Common.{ArePointsOrdered, Spans, mul-sub, mul-mono_of, AreCostPoints, point_at, AllFirst}
use Rattle.cost_curve.proofs.Common.{net_at, IsEdge, IsVertex}
use Rattle.cost_curve.proofs.EdgeLaws.{ordered_powers, cheapest_before, IsVertex-next}
use Rattle.cost_curve.proofs.SlopeLaws.{before_times}

-- ---- the least and the greatest number over the points

mapped_at : (P : ℤ → Type 0) (f : Point → ℤ) (ps : List Point) → All P (map f ps) → (i : ℕ) → i < length ps →
    P (f (point_at ps i))
mapped_at P f ps all i lt = subst P (get_or-map f ps i _ (pos 0) lt)
    (all i (pos 0) (let n = length-map ps f in omega (arith, n, lt)))

least_at : (ps : List Point) (x k : ℤ) (i : ℕ) → i < length ps → least_line ps x k ≤ℤ line_at k x (point_at ps i)
least_at [] x k i lt = absurd (omega (arith, lt))
least_at (p ∷ ps) x k zero lt = (fold-int_min_bounds (line_at k x p) (map (line_at k x) ps) _ refl).0
least_at (p ∷ ps) x k (suc i) lt = mapped_at (λ (y : ℤ). least_line (p ∷ ps) x k ≤ℤ y) (line_at k x) ps
    (fold-int_min_bounds (line_at k x p) (map (line_at k x) ps) _ refl).1 i (omega (arith, lt))

some_is : (a b : ℤ) → Some a ≡ Some b → a ≡ b
some_is a b e = cc

greatest_at : (f : Point → ℤ) (ps : List Point) (best : ℤ) → reduce int_max (map f ps) ≡ Some best → (i : ℕ) →
    i < length ps → f (point_at ps i) ≤ℤ best
greatest_at f [] best e i lt = absurd (omega (arith, lt))
greatest_at f (p ∷ ps) best e zero lt = (fold-int_max_bounds (f p) (map f ps) best (sym (some_is _ best e))).0
greatest_at f (p ∷ ps) best e (suc i) lt = mapped_at (λ (y : ℤ). y ≤ℤ best) f ps
    (fold-int_max_bounds (f p) (map f ps) best (sym (some_is _ best e))).1 i (omega (arith, lt))

-- it is that of one of them
module _ (pick : ℤ → ℤ → ℤ) (picks : (a b : ℤ) → (pick a b ≡ a) ⊎ (pick a b ≡ b)) (f : Point → ℤ) where
  fold_picked : (a : ℤ) (ps : List Point) →
      (fold pick a (map f ps) ≡ a) ⊎ ((i : ℕ) × (i < length ps) × (fold pick a (map f ps) ≡ f (point_at ps i)))
  fold_picked a [] = inl refl
  fold_picked a (p ∷ ps) =
      elim (fold_picked (pick a (f p)) ps) [
        | inl e ↦ elim (picks a (f p)) [ inl m ↦ inl (e ∙ m) | inr m ↦ inr (0, omega arith, e ∙ m) ]
        | inr r ↦ let low = r.1 in inr (suc r.0, omega (arith, low), r.2)
      ]

  picked : (ps : List Point) → 1 ≤ length ps → (i : ℕ) × (i < length ps) ×
      (reduce pick (map f ps) ≡ Some (f (point_at ps i)))
  picked [] some = absurd (omega (arith, some))
  picked (p ∷ ps) some = elim (fold_picked (f p) ps) [
    | inl e ↦ (0, omega arith, ap Some e)
    | inr r ↦ let low = r.1 in
        (suc r.0, omega (arith, low), ap Some r.2)
  ]

min_picks : (a b : ℤ) → (int_min a b ≡ a) ⊎ (int_min a b ≡ b)
min_picks a b = grind (arith, ints, clamps)

max_picks : (a b : ℤ) → (int_max a b ≡ a) ⊎ (int_max a b ≡ b)
max_picks a b = grind (arith, ints, clamps)

least_reached : (ps : List Point) (x k : ℤ) → 1 ≤ length ps →
    (i : ℕ) × (i < length ps) × (least_line ps x k ≡ line_at k x (point_at ps i))
least_reached ps x k some = let r = picked int_min min_picks (line_at k x) ps some in
    (r.0, r.1, ap (λ o. unwrap_or o (pos 0)) r.2)

-- ---- the least line where a point is cheapest

line_is : (k x : ℤ) (p : Point) → line_at k x p ≡ net_at k p +ℤ (k *ℤ x)
line_is k x p = omega (arith, ints, mul-sub k x p.at)

least_is : (ps : List Point) (x k : ℤ) (i : ℕ) → i < length ps →
    AllFirst (length ps) (λ (l : Point). net_at k (point_at ps i) ≤ℤ net_at k l) ps →
    least_line ps x k ≡ line_at k x (point_at ps i)
least_is ps x k i lt cheapest =
    let r = least_reached ps x k (omega arith) in
    let c = cheapest r.0 r.1 in
    let le = least_at ps x k i lt in
    let is = r.2 in
    omega (arith, ints, c, le, is, line_is k x (point_at ps r.0), line_is k x (point_at ps i))

-- ---- a line at another price

-- left of a power the line through it falls with the price, and right of it it rises
steeper : (j k x : ℤ) (p : Point) → j ≤ℤ k → p.at ≤ℤ x → line_at j x p ≤ℤ line_at k x p
steeper j k x p prices right =
    let m = mul-mono_of (x -ℤ p.at) j k (omega (arith, ints, right)) prices in
    omega (arith, ints, m, *ℤ_comm (x -ℤ p.at) j, *ℤ_comm (x -ℤ p.at) k)

flatter : (j k x : ℤ) (p : Point) → j ≤ℤ k → x ≤ℤ p.at → line_at k x p ≤ℤ line_at j x p
flatter j k x p prices left =
    let m = mul-mono_of (p.at -ℤ x) j k (omega (arith, ints, left)) prices in
    omega (
      arith,
      ints,
      m,
      *ℤ_comm (p.at -ℤ x) j,
      *ℤ_comm (p.at -ℤ x) k,
      mul-sub j x p.at,
      mul-sub k x p.at,
      mul-sub j p.at x,
      mul-sub k p.at x,
    )

at_itself : (k : ℤ) (p : Point) → line_at k p.at p ≡ p.cost
at_itself k p = omega (arith, ints, mul-sub k p.at p.at)

-- ---- at a point that is cheapest at some price

pub IsEnvelope-point : (ps : List Point) (k : ℤ) (i : ℕ) → i < length ps →
    AllFirst (length ps) (λ (l : Point). net_at k (point_at ps i) ≤ℤ net_at k l) ps →
    IsEnvelope ps (point_at ps i).at (point_at ps i).cost
IsEnvelope-point ps k i lt cheapest = record {
  attained = (k, least_is ps (point_at ps i).at k i lt cheapest ∙ at_itself k (point_at ps i));
  greatest = λ j. omega (arith, ints, least_at ps (point_at ps i).at j i lt, at_itself j (point_at ps i));
}

-- ---- on an edge

below_or_from : (k t : ℤ) → (k ≤ℤ (t -ℤ pos 1)) ⊎ (t ≤ℤ k)
below_or_from k t = grind (arith, ints)

module _ (ps : List Point) (i j : ℕ) (i_in : i < length ps) (j_in : j < length ps) (k t w : ℤ)
    (v : IsVertex ps k (point_at ps i)) (e : IsEdge (point_at ps i) (length ps) ps (point_at ps j) t w)
    (x : ℤ) (from : (point_at ps i).at ≤ℤ x) (to : x ≤ℤ (point_at ps j).at) where
  lines_differ : line_at t x (point_at ps j) +ℤ w ≡ line_at (t -ℤ pos 1) x (point_at ps i) +ℤ (x -ℤ (point_at ps i).at)
  lines_differ =
      let m = e.slope.meets in
      omega (
        arith,
        ints,
        m,
        line_is t x (point_at ps j),
        line_is (t -ℤ pos 1) x (point_at ps i),
        before_times t x,
        before_times t (point_at ps i).at,
      )

  under : (z : ℤ) → (least_line ps x z ≤ℤ line_at (t -ℤ pos 1) x (point_at ps i)) ⊎
      (least_line ps x z ≤ℤ line_at t x (point_at ps j))
  under z =
      elim (below_or_from z t) [
        | inl h ↦ let a = least_at ps x z i i_in in let b = steeper z (t -ℤ pos 1) x (point_at ps i) h from in
            inl (omega (arith, ints, a, b))
        | inr h ↦ let a = least_at ps x z j j_in in let b = flatter t z x (point_at ps j) h to in
            inr (omega (arith, ints, a, b))
      ]

  -- over the first w kilowatts
  pub IsEnvelope-before : (x -ℤ (point_at ps i).at) ≤ℤ w → IsEnvelope ps x (line_at (t -ℤ pos 1) x (point_at ps i))
  IsEnvelope-before near = record {
    attained = (
      t -ℤ pos 1,
      least_is ps x (t -ℤ pos 1) i i_in
          (cheapest_before (point_at ps i) ps (point_at ps j) k t w v e j j_in refl),
    );
    greatest = λ z. let d = lines_differ in elim (under z) [ inl h ↦ h | inr h ↦ omega (arith, ints, h, d, near) ];
  }

  -- and after them
  pub IsEnvelope-after : w ≤ℤ (x -ℤ (point_at ps i).at) →
      IsEnvelope ps x (line_at (t -ℤ pos 1) x (point_at ps i) +ℤ ((x -ℤ (point_at ps i).at) -ℤ w))
  IsEnvelope-after far =
      let d = lines_differ in
      let next = IsVertex-next (point_at ps i) ps (point_at ps j) k t w v e j j_in refl in
      let same : line_at t x (point_at ps j) ≡ line_at (t -ℤ pos 1) x
      (point_at ps i) +ℤ ((x -ℤ (point_at ps i).at) -ℤ w) = omega (arith, ints, d) in
      subst (IsEnvelope ps x) same (record {
        attained = (t, least_is ps x t j j_in next.cheapest);
        greatest = λ z. elim (under z) [ inl h ↦ omega (arith, ints, h, d, far) | inr h ↦ h ];
      })

-- a power between those of two points
pub Spans-ordered : (ps : List Point) → ArePointsOrdered ps → (i j : ℕ) (x : ℤ) → i < length ps → j < length ps →
    (point_at ps i).at ≤ℤ x → x ≤ℤ (point_at ps j).at → Spans ps x x
Spans-ordered ps ordered i j x i_in j_in low high = record {
  first = λ d. let o = ordered_powers ps ordered 0 i (omega arith) i_in in
      let e = get_or_default ps 0 (record { at = pos 0; cost = pos 0 }) d (omega arith) in
      let f = ap (λ (p : Point). p.at) e in omega (arith, ints, o, low, f);
  last = λ n d is.
      let o = ordered_powers ps ordered j n (omega (arith, is)) (omega (arith, is)) in
      let e = get_or_default ps n (record { at = pos 0; cost = pos 0 }) d (omega (arith, is)) in
      let f = ap (λ (p : Point). p.at) e in
      omega (arith, ints, o, high, f);
}

-- ---- the envelope's number

-- there is only one
same_number : (ps : List Point) (x v w : ℤ) → IsEnvelope ps x v → IsEnvelope ps x w → v ≡ w
same_number ps x v w h i =
    let a = h.attained.1 in
    let b = i.attained.1 in
    let c = i.greatest h.attained.0 in
    let d = h.greatest i.attained.0 in
    omega (arith, ints, a, b, c, d)

pub envelope_value : EnvelopeIsGreatest → (ps : List Point) → AreCostPoints ps → (x v : ℤ) → Spans ps x x →
    IsEnvelope ps x v → envelope ps x ≡ v
envelope_value law ps are x v span h = same_number ps x (envelope ps x) v (law ps x are.some are.points span) h

-- at a vertex it is the point's own cost
pub envelope_vertex : EnvelopeIsGreatest → (ps : List Point) → AreCostPoints ps → (k : ℤ) (i : ℕ) → i < length ps →
    IsVertex ps k (point_at ps i) → envelope ps (point_at ps i).at ≡ (point_at ps i).cost
envelope_vertex law ps are k i lt v =
    envelope_value law ps are (point_at ps i).at (point_at ps i).cost
    (Spans-ordered ps are.ordered i i (point_at ps i).at lt lt (omega (arith, ints)) (omega (arith, ints)))
    (IsEnvelope-point ps k i lt v.cheapest)

-- ---- the greatest earnings over the points

abbrev earned : ℤ → Point → ℤ
earned price p = (price *ℤ p.at) -ℤ p.cost

pub envelope_earns_as_points : EnvelopeIsGreatest → EnvelopeEarnsAsPoints
envelope_earns_as_points law ps price best some are ordered best_is = (no_more, as_much)
  where
    no_more : (x : ℤ) → Spans ps x x → ((price *ℤ x) -ℤ envelope ps x) ≤ℤ best
    no_more x span =
        let h = (law ps x some are span).greatest price in
        let r = least_reached ps x price some in
        let is = r.2 in
        let b = greatest_at (earned price) ps best best_is r.0 r.1 in
        omega (arith, ints, h, is, b, mul-sub price x (point_at ps r.0).at)

    as_much : (x : ℤ) × Spans ps x x × ((price *ℤ x) -ℤ envelope ps x ≡ best)
    as_much =
        let r = picked int_max max_picks (earned price) ps some in
        let i = r.0 in
        let x = (point_at ps i).at in
        let q_is : earned price (point_at ps i) ≡ best = some_is _ best (sym r.2 ∙ best_is) in
        let span = Spans-ordered ps ordered i i x r.1 r.1 (omega (arith, ints)) (omega (arith, ints)) in
        let cheapest : AllFirst (length ps) (λ (l : Point). net_at price (point_at ps i) ≤ℤ net_at price l) ps =
        λ k lt. let b = greatest_at (earned price) ps best best_is k lt in omega (arith, ints, b, q_is) in
        let value = same_number ps x (envelope ps x) (point_at ps i).cost (law ps x some are span)
        (IsEnvelope-point ps price i r.1 cheapest) in
        (x, span, omega (arith, ints, q_is, value))
