-- The edges of the envelope: how one is found point by point, and what it says of all points.
use Rattle.cost_curve.proofs.Common.{◌≡◌, ℕ, zero, suc, ◌+◌, ◌-◌, ◌<◌, ◌≤◌, ◌⊎◌, inl, inr, ℤ, pos, neg_ℤ, ◌+ℤ◌, ◌-ℤ◌}
use Rattle.cost_curve.proofs.Common.{◌*ℤ◌, ◌≤ℤ◌, ◌<ℤ◌, List, length, sym, ap, subst, arith, ints, *ℤ_comm, zero-*ℤ}
use Rattle.cost_curve.proofs.Common.{*ℤ-one, Point, IsPoint, ArePointsOrdered, mul-add, mul-sub, mul-mono_of, point_at}
use Rattle.cost_curve.proofs.Common.{AllFirst, net_at, IsSlope, IsEdge, IsLast, IsStart, IsVertex}
use Rattle.cost_curve.proofs.SlopeLaws.{before_times}

-- ---- facts on the first points

before_or_at : (k n : ℕ) → k < n + 1 → (k < n) ⊎ (k ≡ n)
before_or_at k n lt = grind arith

pub more : (P : Point → Type 0) (ps : List Point) (n : ℕ) → AllFirst n P ps → P (point_at ps n) → AllFirst (n + 1) P ps
more P ps n below here k lt =
    elim (before_or_at k n lt) [ inl h ↦ below k h | inr e ↦ subst (λ j. P (point_at ps j)) (sym e) here ]

-- a later point has at least as much power
later_more : (ps : List Point) → ArePointsOrdered ps → (i n : ℕ) → i + n < length ps →
    (point_at ps i).at ≤ℤ (point_at ps (i + n)).at
later_more ps ordered i zero lt = let e : i ≡ i + 0 = omega arith in let h = ap (λ j. (point_at ps j).at) e in
    omega (arith, ints, h)
later_more ps ordered i (suc n) lt =
    let e : suc (i + n) ≡ i + suc n = omega arith in
    let same = ap (λ j. (point_at ps j).at) e in
    let step = ordered (i + n) (record { at = pos 0; cost = pos 0 }) (omega arith) in
    let before = later_more ps ordered i n (omega arith) in
    omega (arith, ints, same, step, before)

pub ordered_powers : (ps : List Point) → ArePointsOrdered ps → (i j : ℕ) → i ≤ j → j < length ps →
    (point_at ps i).at ≤ℤ (point_at ps j).at
ordered_powers ps ordered i j le lt =
    let e : i + (j - i) ≡ j = omega arith in
    subst (λ k. (point_at ps i).at ≤ℤ (point_at ps k).at) e (later_more ps ordered i (j - i) (omega arith))

-- ---- whole numbers

up_or_same : (a b : ℤ) → (a <ℤ b) ⊎ (b ≤ℤ a)
up_or_same a b = grind (arith, ints)

le_or_above : (a b : ℤ) → (a ≤ℤ b) ⊎ (b ≤ℤ (a -ℤ pos 1))
le_or_above a b = grind (arith, ints)

minus_times : (t k z : ℤ) → (t -ℤ k) *ℤ z ≡ (t *ℤ z) -ℤ (k *ℤ z)
minus_times t k z = omega (arith, ints, *ℤ_comm (t -ℤ k) z, mul-sub z t k, *ℤ_comm z t, *ℤ_comm z k)

negated : (n : ℕ) (z : ℤ) → neg_ℤ (pos n) *ℤ z ≡ neg_ℤ (pos n *ℤ z)
negated n z =
    let e : neg_ℤ (pos n) ≡ pos 0 -ℤ pos n = omega (arith, ints) in
    let m = minus_times (pos 0) (pos n) z in
    let f = ap (λ (k : ℤ). k *ℤ z) e in
    omega (arith, ints, m, f, zero-*ℤ z)

one_more : (n : ℕ) (z : ℤ) → pos n *ℤ (z +ℤ pos 1) ≡ (pos n *ℤ z) +ℤ pos n
one_more n z = omega (arith, ints, mul-add (pos n) z (pos 1), *ℤ-one (pos n))

-- ---- as the price rises, points of more power gain

turn : (k t : ℤ) (a b : Point) → k ≤ℤ t → a.at ≤ℤ b.at → (net_at t b +ℤ net_at k a) ≤ℤ (net_at k b +ℤ net_at t a)
turn k t a b prices powers =
    let gain = mul-mono_of (t -ℤ k) a.at b.at (omega (arith, ints, prices)) powers in
    let at_a = minus_times t k a.at in
    let at_b = minus_times t k b.at in
    omega (arith, ints, gain, at_a, at_b)

-- just before the price of a slope its end is dearer
dearer_before : (q p : Point) (t w : ℤ) → IsSlope q p t w → net_at (t -ℤ pos 1) q <ℤ net_at (t -ℤ pos 1) p
dearer_before q p t w s =
    let a = before_times t q.at in
    let b = before_times t p.at in
    let m = s.meets in
    let n = s.most in
    omega (arith, ints, a, b, m, n)

-- and at any price before that
dearer_until : (q l : Point) (k t : ℤ) → q.at <ℤ l.at → k ≤ℤ t → net_at t q <ℤ net_at t l → net_at k q <ℤ net_at k l
dearer_until q l k t rising le h = let e = turn k t q l le (omega (arith, ints, rising)) in omega (arith, ints, e, h)

-- ---- one more point

-- the new point's slope is no reason to go there
abbrev pub IsWorse : ℤ → ℤ → ℤ → ℤ → Type 0
IsWorse t w t' w' = (t <ℤ t') ⊎ ((t ≡ t') × (w' <ℤ w))

abbrev pub IsBetter : ℤ → ℤ → ℤ → ℤ → Type 0
IsBetter t w t' w' = (t' <ℤ t) ⊎ ((t' ≡ t) × (w ≤ℤ w'))

worse_le : (t w t' w' : ℤ) → IsWorse t w t' w' → t ≤ℤ t'
worse_le t w t' w' (inl h) = omega (arith, ints, h)
worse_le t w t' w' (inr h) = let e = h.0 in omega (arith, ints, e)

module _ (q : Point) (ps : List Point) (n : ℕ) where
  -- the first point of more power
  pub IsEdge-first : (t w : ℤ) → IsLast q n ps → q.at <ℤ (point_at ps n).at → IsSlope q (point_at ps n) t w →
      IsEdge q (n + 1) ps (point_at ps n) t w
  IsEdge-first t w none rising s = record {
    rising = rising;
    slope = s;
    before = more (λ l. q.at <ℤ l.at → net_at (t -ℤ pos 1) q <ℤ net_at (t -ℤ pos 1) l) ps n
        (λ k lt up. let h = none k lt in absurd (omega (arith, ints, h, up)))
        (λ up. dearer_before q (point_at ps n) t w s);
    cheapest = more (λ l. q.at <ℤ l.at → net_at t (point_at ps n) ≤ℤ net_at t l) ps n
        (λ k lt up. let h = none k lt in absurd (omega (arith, ints, h, up))) (λ up. omega (arith, ints));
    last = more (λ l. (point_at ps n).at <ℤ l.at → net_at t (point_at ps n) <ℤ net_at t l) ps n
        (λ k lt up. let h = none k lt in absurd (omega (arith, ints, h, up, rising)))
        (λ up. absurd (omega (arith, ints, up)));
  }

  module _ (p : Point) (t w : ℤ) (e : IsEdge q n ps p t w) where
    -- a point of no more power changes nothing
    pub IsEdge-passes : (point_at ps n).at ≤ℤ q.at → IsEdge q (n + 1) ps p t w
    IsEdge-passes low =
        let rising = e.rising in
        record {
          rising = e.rising;
          slope = e.slope;
          before = more (λ l. q.at <ℤ l.at → net_at (t -ℤ pos 1) q <ℤ net_at (t -ℤ pos 1) l) ps n e.before
              (λ up. absurd (omega (arith, ints, up, low)));
          cheapest = more (λ l. q.at <ℤ l.at → net_at t p ≤ℤ net_at t l) ps n e.cheapest
              (λ up. absurd (omega (arith, ints, up, low)));
          last = more (λ l. p.at <ℤ l.at → net_at t p <ℤ net_at t l) ps n e.last
              (λ up. absurd (omega (arith, ints, up, low, rising)));
        }

    module _ (t' w' : ℤ) (s' : IsSlope q (point_at ps n) t' w') (rising' : q.at <ℤ (point_at ps n).at) where
      dearer_there : IsWorse t w t' w' → net_at t p <ℤ net_at t (point_at ps n)
      dearer_there (inl h) =
          let b = dearer_until q (point_at ps n) t (t' -ℤ pos 1) rising' (omega (arith, ints, h))
          (dearer_before q (point_at ps n) t' w' s') in
          let m = e.slope.meets in
          let z = e.slope.least in
          omega (arith, ints, b, m, z)
      dearer_there (inr h) =
          let m = e.slope.meets in
          let m' = s'.meets in
          let a = ap (λ j. net_at j (point_at ps n)) h.0 in
          let b = ap (λ j. net_at j q) h.0 in
          let c = h.1 in
          omega (arith, ints, m, m', a, b, c)

      -- a point that is reached later, or is dearer at that price, changes nothing
      pub IsEdge-keeps : IsWorse t w t' w' → IsEdge q (n + 1) ps p t w
      IsEdge-keeps worse =
          let above = dearer_there worse in
          let le = worse_le t w t' w' worse in
          record {
            rising = e.rising;
            slope = e.slope;
            before = more (λ x. q.at <ℤ x.at → net_at (t -ℤ pos 1) q <ℤ net_at (t -ℤ pos 1) x) ps n e.before
                (λ up. dearer_until q (point_at ps n) (t -ℤ pos 1) (t' -ℤ pos 1) rising' (omega (arith, ints, le))
                (dearer_before q (point_at ps n) t' w' s'));
            cheapest = more (λ x. q.at <ℤ x.at → net_at t p ≤ℤ net_at t x) ps n e.cheapest
                (λ up. omega (arith, ints, above));
            last = more (λ x. p.at <ℤ x.at → net_at t p <ℤ net_at t x) ps n e.last (λ up. above);
          }

      -- a point that is reached earlier, or is no dearer at the same price, takes over
      reached : net_at t' (point_at ps n) ≤ℤ net_at t' q
      reached = let m = s'.meets in let z = s'.least in omega (arith, ints, m, z)

      takes_earlier : t' <ℤ t → IsEdge q (n + 1) ps (point_at ps n) t' w'
      takes_earlier h =
          let r = reached in
          let old : (j : ℤ) → j ≤ℤ (t -ℤ pos 1) → AllFirst n (λ x. q.at <ℤ x.at → net_at j q <ℤ net_at j x) ps =
          λ j le k lt up. dearer_until q (point_at ps k) j (t -ℤ pos 1) up le (e.before k lt up) in
          record {
            rising = rising';
            slope = s';
            before = more (λ x. q.at <ℤ x.at → net_at (t' -ℤ pos 1) q <ℤ net_at (t' -ℤ pos 1) x) ps n
                (old (t' -ℤ pos 1) (omega (arith, ints, h))) (λ up. dearer_before q (point_at ps n) t' w' s');
            cheapest = more (λ x. q.at <ℤ x.at → net_at t' (point_at ps n) ≤ℤ net_at t' x) ps n
                (λ k lt up. let o = old t' (omega (arith, ints, h)) k lt up in omega (arith, ints, o, r))
                (λ up. omega (arith, ints));
            last = more (λ x. (point_at ps n).at <ℤ x.at → net_at t' (point_at ps n) <ℤ net_at t' x) ps n
                (λ k lt up. let o = old t' (omega (arith, ints, h)) k lt (omega (arith, ints, up, rising')) in
                omega (arith, ints, o, r)) (λ up. absurd (omega (arith, ints, up)));
          }

      takes_same : t' ≡ t → w ≤ℤ w' → p.at ≤ℤ (point_at ps n).at → IsEdge q (n + 1) ps (point_at ps n) t' w'
      takes_same same wider more_power =
          let m = e.slope.meets in
          let m' = s'.meets in
          let at_l = ap (λ j. net_at j (point_at ps n)) same in
          let at_q = ap (λ j. net_at j q) same in
          let below : net_at t' (point_at ps n) ≤ℤ net_at t p = omega (arith, ints, m, m', at_q, wider) in
          record {
            rising = rising';
            slope = s';
            before = more (λ x. q.at <ℤ x.at → net_at (t' -ℤ pos 1) q <ℤ net_at (t' -ℤ pos 1) x) ps n
                (λ k lt up. dearer_until q (point_at ps k) (t' -ℤ pos 1) (t -ℤ pos 1) up (omega (arith, ints, same))
                (e.before k lt up)) (λ up. dearer_before q (point_at ps n) t' w' s');
            cheapest = more (λ x. q.at <ℤ x.at → net_at t' (point_at ps n) ≤ℤ net_at t' x) ps n
                (λ k lt up. let o = e.cheapest k lt up in let at_x = ap (λ j. net_at j (point_at ps k)) same in
                omega (arith, ints, o, below, at_x)) (λ up. omega (arith, ints));
            last = more (λ x. (point_at ps n).at <ℤ x.at → net_at t' (point_at ps n) <ℤ net_at t' x) ps n
                (λ k lt up. let o = e.last k lt (omega (arith, ints, up, more_power)) in
                let at_x = ap (λ j. net_at j (point_at ps k)) same in omega (arith, ints, o, below, at_x))
                (λ up. absurd (omega (arith, ints, up)));
          }

      pub IsEdge-takes : p.at ≤ℤ (point_at ps n).at → IsBetter t w t' w' → IsEdge q (n + 1) ps (point_at ps n) t' w'
      IsEdge-takes more_power (inl h) = takes_earlier h
      IsEdge-takes more_power (inr h) = takes_same h.0 h.1 more_power

-- ---- edges between vertices

-- the first of the cheapest points of least power is cheapest at a price below all slopes
pub IsVertex-start : (q : Point) (ps : List Point) → IsPoint q → ((k : ℕ) → k < length ps → IsPoint (point_at ps k)) →
    IsStart q (length ps) ps → IsVertex ps (neg_ℤ (pos 20000000000001)) q
IsVertex-start q ps hq all start =
    let above : (k : ℕ) → k < length ps → q.at <ℤ (point_at ps k).at →
    net_at (neg_ℤ (pos 20000000000001)) q <ℤ net_at (neg_ℤ (pos 20000000000001)) (point_at ps k) =
    λ k lt up.
    let l = point_at ps k in
    let hl = all k lt in
    let gain = mul-mono_of (pos 20000000000001) (q.at +ℤ pos 1) l.at (omega (arith, ints)) (omega (arith, ints, up)) in
    let b = negated 20000000000001 l.at in
    let a = negated 20000000000001 q.at in
    let g = one_more 20000000000001 q.at in
    omega (arith, ints, gain, a, b, g, hq.cost.at_most, hl.cost.at_least) in
    record {
      cheapest = λ k lt.
          elim (up_or_same q.at (point_at ps k).at) [
            | inl up ↦ let h = above k lt up in omega (arith, ints, h)
            | inr low ↦
                let cost = start.cheapest k lt low in
                let least = start.least k lt in
                let same : q.at ≡ (point_at ps k).at = omega (arith, ints, low, least) in
                let e = ap (λ (z : ℤ). neg_ℤ (pos 20000000000001) *ℤ z) same in
                omega (arith, ints, cost, e)
          ];
      last = above;
    }

module _ (q : Point) (ps : List Point) (p : Point) (k t w : ℤ) (v : IsVertex ps k q) (e : IsEdge q (length ps) ps p t w)
    (index : ℕ) (place_in : index < length ps) (p_is : point_at ps index ≡ p) where
  reached_at : net_at t p ≤ℤ net_at t q
  reached_at = let m = e.slope.meets in let z = e.slope.least in omega (arith, ints, m, z)

  -- prices rise from edge to edge
  pub price_rises : k ≤ℤ (t -ℤ pos 1)
  price_rises =
      elim (le_or_above t k) [
        | inr h ↦ omega (arith, ints, h)
        | inl h ↦
            let r = e.rising in
            let same = ap (λ x. x.at) p_is in
            let s1 = ap (net_at k) p_is in
            let d = v.last index place_in (omega (arith, ints, r, same)) in
            let g = turn t k q p h (omega (arith, ints, r)) in
            let x = reached_at in
            absurd (omega (arith, ints, d, g, x, s1))
      ]

  low_side : (j : ℤ) → k ≤ℤ j → (i : ℕ) → i < length ps → (point_at ps i).at ≤ℤ q.at →
      net_at j q ≤ℤ net_at j (point_at ps i)
  low_side j le i lt low =
      let g = turn k j (point_at ps i) q le low in
      let c = v.cheapest i lt in
      omega (arith, ints, g, c)

  -- just before the edge's price the start is cheapest
  pub cheapest_before : (i : ℕ) → i < length ps → net_at (t -ℤ pos 1) q ≤ℤ net_at (t -ℤ pos 1) (point_at ps i)
  cheapest_before i lt =
      elim (up_or_same q.at (point_at ps i).at) [
        | inl up ↦ let h = e.before i lt up in omega (arith, ints, h)
        | inr low ↦ low_side (t -ℤ pos 1) price_rises i lt low
      ]

  -- and at its price the end is the next vertex
  pub IsVertex-next : IsVertex ps t p
  IsVertex-next = record {
    cheapest = λ i lt.
        elim (up_or_same q.at (point_at ps i).at) [
          | inl up ↦ e.cheapest i lt up
          | inr low ↦ let r = price_rises in let h = low_side t (omega (arith, ints, r)) i lt low in
              let x = reached_at in omega (arith, ints, h, x)
        ];
    last = e.last;
  }
