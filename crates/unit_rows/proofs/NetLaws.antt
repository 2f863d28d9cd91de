-- The prices at which an end of a list of points has the least net cost.
use Rattle.unit_rows.proofs.Common.{◌≡◌, ◌⊎◌, inl, inr, ℕ, zero, suc, ◌+◌, ◌-◌, ◌<◌, ℤ, pos, neg_ℤ, ◌-ℤ◌, ◌*ℤ◌, ◌≤ℤ◌}
use Rattle.unit_rows.proofs.Common.{List, length, arith, get_or, signed, All, slice_index_or}
use Rattle.unit_rows.proofs.Common.{slice_get-get_or, get_or_from_slice_get, *ℤ_comm, mul-mono_of, mul-sub, Point}
use Rattle.unit_rows.proofs.Common.{ArePointsOrdered, HasLeastNet, AreKnown}

-- ---- two points at two prices

spread : (k m x : ℤ) → ((k -ℤ m) *ℤ x) ≡ ((k *ℤ x) -ℤ (m *ℤ x))
spread k m x = rw (*ℤ_comm (k -ℤ m) x, *ℤ_comm k x, *ℤ_comm m x) (mul-sub x k m)

-- the one of less power stays the cheaper one at less, and the one of more power at more
module _ (a b : Point) (from to : ℤ) (less : (a.cost -ℤ (from *ℤ a.at)) ≤ℤ (b.cost -ℤ (from *ℤ b.at))) where
  stays_below : a.at ≤ℤ b.at → to ≤ℤ from → (a.cost -ℤ (to *ℤ a.at)) ≤ℤ (b.cost -ℤ (to *ℤ b.at))
  stays_below rise low =
      let more = mul-mono_of (from -ℤ to) a.at b.at (omega signed) rise in
      let at_a = spread from to a.at in
      let at_b = spread from to b.at in
      omega signed

  stays_above : b.at ≤ℤ a.at → from ≤ℤ to → (a.cost -ℤ (to *ℤ a.at)) ≤ℤ (b.cost -ℤ (to *ℤ b.at))
  stays_above fall high =
      let more = mul-mono_of (to -ℤ from) b.at a.at (omega signed) fall in
      let at_a = spread to from a.at in
      let at_b = spread to from b.at in
      omega signed

-- ---- the points of a list

rises : (ps : List Point) → ArePointsOrdered ps → (d : Point) (i n : ℕ) → i + n < length ps →
    (slice_index_or ps i d).at ≤ℤ (slice_index_or ps (i + n) d).at
rises ps ordered d i zero low = let e : i + 0 ≡ i = omega arith in rw e (omega signed)
rises ps ordered d i (suc n) low =
    let e : i + suc n ≡ suc (i + n) = omega arith in
    let step = ordered (i + n) d (omega arith) in
    let before = rises ps ordered d i n (omega arith) in
    rw e (omega signed)

module _ (ps : List Point) (none : Point) (at : ℕ) (low : at < length ps) where
  net_is : (price net : ℤ) → net ≡ (get_or ps at none).cost -ℤ (price *ℤ (get_or ps at none).at) → (d : Point) →
      net ≡ (get_or ps at d).cost -ℤ (price *ℤ (get_or ps at d).at)
  net_is price net is d =
      let same : get_or ps at d ≡ get_or ps at none =
      get_or_from_slice_get ps at (get_or ps at none) d (slice_get-get_or ps at none low) in
      rw same is

  -- what it costs is at most what each of them does
  pub known_least : (price net : ℤ) → net ≡ (get_or ps at none).cost -ℤ (price *ℤ (get_or ps at none).at) →
      HasLeastNet ps at price → All (λ (p : Point). net ≤ℤ (p.cost -ℤ (price *ℤ p.at))) ps
  known_least price net is has k d inside = let here = net_is price net is d in let least = has k d inside in
      omega signed

  -- it has the least, where that is what it costs
  pub has_least : (price net least : ℤ) → net ≡ (get_or ps at none).cost -ℤ (price *ℤ (get_or ps at none).at) →
      net ≡ least → All (λ (p : Point). least ≤ℤ (p.cost -ℤ (price *ℤ p.at))) ps → HasLeastNet ps at price
  has_least price net least is least_is all j d inside =
      let here = net_is price net is d in
      let low = all j d inside in
      omega signed

-- ---- what is known

module _ (ps : List Point) (ordered : ArePointsOrdered ps) where
  first_below : (price low : ℤ) → HasLeastNet ps 0 price → low ≤ℤ price → HasLeastNet ps 0 low
  first_below price low has under j d inside =
      let e : 0 + j ≡ j = omega arith in
      stays_below (slice_index_or ps 0 d) (slice_index_or ps j d) price low (has j d inside)
      (rw e at (rises ps ordered d 0 j (omega arith))) under

  last_above : (n : ℕ) (price high : ℤ) → suc n ≡ length ps → HasLeastNet ps n price → price ≤ℤ high →
      HasLeastNet ps n high
  last_above n price high end has above j d inside =
      let e : j + (n - j) ≡ n = omega arith in
      stays_above (slice_index_or ps n d) (slice_index_or ps j d) price high (has j d inside)
      (rw e at (rises ps ordered d j (n - j) (omega arith))) above

  -- a price more at which the first point, or the last, has the least
  pub known_more : (price first_to last_from first_to' last_from' : ℤ) → AreKnown ps first_to last_from →
      (first_to' ≡ first_to) ⊎ ((first_to' ≡ price) × HasLeastNet ps 0 price) →
      (last_from' ≡ last_from) ⊎ ((last_from' ≡ price) × ((n : ℕ) → suc n ≡ length ps → HasLeastNet ps n price)) →
      AreKnown ps first_to' last_from'
  known_more price first_to last_from first_to' last_from' known first last = record {
    first = λ low at_least under. elim first [
      | inl z ↦ known.first low at_least (omega signed)
      | inr h ↦ first_below price low h.1 (omega signed)
    ];
    last = λ n high end above at_most. elim last [
      | inl z ↦ known.last n high end (omega signed) at_most
      | inr h ↦ last_above n price high end (h.1 n end) (omega signed)
    ];
  }

-- no price, at first
pub none_known : (ps : List Point) → AreKnown ps (neg_ℤ (pos 20000001)) (pos 20000001)
none_known ps = record {
  first = λ price at_least under. absurd (omega signed);
  last = λ n price end above at_most. absurd (omega signed);
}
