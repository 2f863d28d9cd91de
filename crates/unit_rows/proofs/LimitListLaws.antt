-- The limits, as they are written from the last period back.
use Rattle.unit_rows.proofs.Common.{◌≡◌, ◌≢◌, ℕ, suc, ◌+◌, ◌*◌, ◌<◌, ◌≤◌, inl, inr, Some, ℤ, pos, ◌+ℤ◌, ◌-ℤ◌, ◌*ℤ◌}
use Rattle.unit_rows.proofs.Common.{◌≤ℤ◌, List, [], ◌∷◌, map, length, refl, ◌∙◌, get_or, set}
use Rattle.unit_rows.proofs.Common.{get_or-set_same}
use Rattle.unit_rows.proofs.Common.{get_or-set_other, arith, signed, bounded, FitsSigned, slice_get, slice_index_or}
use Rattle.unit_rows.proofs.Common.{All, fold, int_max, int_min, w64, cases_eq, cases_lt, slice_get-get_or}
use Rattle.unit_rows.proofs.Common.{get_or_from_slice_get, *ℤ_comm, Point, ThermalUnit, PriceLists, Schedule}
use Rattle.unit_rows.proofs.Common.{envelope, IsFrom, IsOutput, IsPoint, ArePointsOrdered, Spans, IsThermalUnit}
use Rattle.unit_rows.proofs.Common.{power_in, reserve_in, int_at, net_cost, IsInRange, AreLimits, mul-mono_of}
use Rattle.unit_rows.proofs.Common.{mul-add, mul-sub, IsWithin, stored, stored_is, fits64, product_within}
use Rattle.uc_model.specs.Laws.{EnvelopeEarnsAsPoints}

-- ---- what a product leaves of a number, as the code has it

-- c less a * b is at most m in magnitude, and the code's product and difference are the whole ones
pub record IsLeft (m : ℕ) (a b c : ℤ) : Type 0 where
  pub product_fits : FitsSigned w64 (stored a *ℤ stored b)
  pub fits : FitsSigned w64 (stored c -ℤ stored (stored a *ℤ stored b))
  pub is : stored (stored c -ℤ stored (stored a *ℤ stored b)) ≡ c -ℤ (a *ℤ b)
  pub within : IsWithin m (c -ℤ (a *ℤ b))

left_of : (k m n : ℕ) (a b c : ℤ) → k + m + n + m * n ≤ 9000000000000000000 → IsWithin m a → IsFrom (pos 0) (pos n) b →
    IsWithin k c → IsLeft (k + m * n) a b c
left_of k m n a b c few x y z =
    let p = product_within m n a b x y in
    let product : stored a *ℤ stored b ≡ a *ℤ b = rw (stored_is a (omega signed), stored_is b (omega signed)) in
    let inside : stored c -ℤ stored (stored a *ℤ stored b) ≡ c -ℤ (a *ℤ b) =
    rw (product, stored_is (a *ℤ b) (omega signed), stored_is c (omega signed)) in
    record {
      product_fits = rw product (fits64 (a *ℤ b) (omega signed) (omega signed));
      fits = rw inside (fits64 (c -ℤ (a *ℤ b)) (omega signed) (omega signed));
      is = rw inside (stored_is (c -ℤ (a *ℤ b)) (omega signed));
      within = omega signed;
    }

-- what a point costs less what it is worth
pub net_left : {p : Point} {price : ℤ} → IsPoint p → IsWithin 20000000 price →
    IsLeft 20010000000000000 price p.at p.cost
net_left {p = p} {price = price} point limit = left_of 10000000000000 20000000 1000000000 price p.at p.cost
    (omega arith) limit point.at point.cost

-- and that less the worth of a reserve
pub reserve_left : {reserve greatest least : ℤ} → IsFrom (pos 0) (pos 10000000) reserve → IsOutput greatest →
    IsWithin 20010000000000000 least → IsLeft 20110000000000000 reserve greatest least
reserve_left {reserve = reserve} {greatest = greatest} {least = least} r m l =
    left_of 20010000000000000 10000000 10000000 reserve greatest least (omega arith) (omega signed) m l

-- ---- the least over the points, and over the powers

fold_low : (f : Point → ℤ) (a m : ℤ) (ps : List Point) → a ≤ℤ m →
    ((k : ℕ) (d : Point) → k < length ps → f (slice_index_or ps k d) ≤ℤ m) → fold int_max a (map f ps) ≤ℤ m
fold_low f a m [] low all = low
fold_low f a m (p ∷ ps) low all =
    let here = all 0 p (omega arith) in
    fold_low f (int_max a (f p)) m ps (omega bounded) (λ k d inside. all (suc k) d (omega arith))

pub net_low : (law : EnvelopeEarnsAsPoints) (ps : List Point) → 1 ≤ length ps → All IsPoint ps → ArePointsOrdered ps →
    (price least : ℤ) → All (λ (p : Point). least ≤ℤ (p.cost -ℤ (price *ℤ p.at))) ps →
    (x : ℤ) → Spans ps x x → least ≤ℤ (envelope ps x -ℤ (price *ℤ x))
net_low law [] some are ordered price least low x spans = absurd (omega arith)
net_low law (p ∷ ps) some are ordered price least low x spans =
    let f : Point → ℤ = λ p. (price *ℤ p.at) -ℤ p.cost in
    let each : (k : ℕ) (d : Point) → k < length (p ∷ ps) → f (slice_index_or (p ∷ ps) k d) ≤ℤ (pos 0 -ℤ least) =
    λ k d inside. (let h = low k d inside in omega signed) in
    let top = fold_low f (f p) (pos 0 -ℤ least) ps (each 0 p (omega arith)) (λ k d inside. each (suc k) d (omega arith))
    in
    let h = (law (p ∷ ps) price (fold int_max (f p) (map f ps)) some are ordered refl).0 x spans in
    omega signed

-- a period costs no less than the least over the points, less what the greatest reserve is worth
pub period_low : (law : EnvelopeEarnsAsPoints) (g : ThermalUnit) (unit : IsThermalUnit g) (energy reserve least low : ℤ)
    → pos 0 ≤ℤ reserve →
    All (λ (p : Point). least ≤ℤ (p.cost -ℤ ((energy -ℤ reserve) *ℤ p.at))) g.points →
    low ≤ℤ (least -ℤ (reserve *ℤ g.max_power)) →
    (p r : ℤ) → g.min_power ≤ℤ p → (p +ℤ r) ≤ℤ g.max_power → pos 0 ≤ℤ r →
    low ≤ℤ (envelope g.points p -ℤ ((energy *ℤ p) +ℤ (reserve *ℤ r)))
period_low law g unit energy reserve least low some_reserve all under p r from until held =
    let span = unit.span in
    let spans : Spans g.points p p = record {
      first = λ d. let h = span.first d in omega signed;
      last = λ n d is. let h = span.last n d is in omega signed;
    } in
    let net = net_low law g.points unit.some_point unit.points unit.points_ordered (energy -ℤ reserve) least all p spans
    in
    let a = *ℤ_comm (energy -ℤ reserve) p in
    let b = mul-sub p energy reserve in
    let c = *ℤ_comm p energy in
    let d = *ℤ_comm p reserve in
    let e = mul-add reserve p r in
    let f = mul-mono_of reserve (p +ℤ r) g.max_power some_reserve until in
    omega signed

-- ---- the limits from a period on

pub record AreLimitsFrom (g : ThermalUnit) (π : PriceLists) (most : ℤ) (from : ℕ) (limits : List ℤ) : Type 0 where
  pub end : int_at limits (length π.energy) ≡ most
  pub falls : (k : ℕ) → from ≤ k → k < length π.energy → int_at limits (suc k) ≤ℤ int_at limits k
  pub step : (k : ℕ) (d : Schedule) → from ≤ k → k < length π.energy → IsInRange g d k →
      int_at limits (suc k) ≤ℤ (int_at limits k +ℤ net_cost g π d (suc k))

module _ (g : ThermalUnit) (π : PriceLists) (most : ℤ) where
  pub limits_more : (index : ℕ) (old new : List ℤ) (limit least : ℤ) → index < length π.energy → index < length old →
      new ≡ set old index (limit -ℤ least) → limit ≡ int_at old (suc index) → least ≤ℤ pos 0 →
      ((d : Schedule) → IsInRange g d index → least ≤ℤ net_cost g π d (suc index)) →
      AreLimitsFrom g π most (suc index) old → AreLimitsFrom g π most index new
  limits_more index old new limit least low room is limit_is none each h =
      let here : int_at new index ≡ limit -ℤ least = rw is (get_or-set_same old index (limit -ℤ least) (pos 0) room) in
      let other : (j : ℕ) → j ≢ index → int_at new j ≡ int_at old j = λ j not.
      rw is (get_or-set_other old index j (limit -ℤ least) (pos 0) not) in
      let next = other (suc index) (λ z. omega arith) in
      record {
        end = other (length π.energy) (λ z. omega arith) ∙ h.end;
        falls = λ k from until. elim (cases_eq k index) [
          | inl z ↦ rw z (omega signed)
          | inr not ↦
              let a = other k not in
              let b = other (suc k) (λ z. omega arith) in
              let falls = h.falls k (omega arith) until in
              omega signed
        ];
        step = λ k d from until range. elim (cases_eq k index) [
          | inl z ↦ let net = each d (rw z at range) in rw z (omega signed)
          | inr not ↦
              let a = other k not in
              let b = other (suc k) (λ z. omega arith) in
              let step = h.step k d (omega arith) until range in
              omega signed
        ];
      }

  pub limits_whole : (xs : List ℤ) → AreLimitsFrom g π most 0 xs → AreLimits g π most (int_at xs)
  limits_whole xs h = record {
    end = h.end;
    falls = λ k low. h.falls k (omega arith) low;
    step = λ k d low range. h.step k d (omega arith) low range;
  }

-- ---- as the code has them

pub price_stored : (energy reserve : ℤ) → IsWithin 10000000 energy → IsFrom (pos 0) (pos 10000000) reserve →
    stored (stored energy -ℤ stored reserve) ≡ energy -ℤ reserve
price_stored energy reserve e r =
    rw (stored_is energy (omega signed), stored_is reserve (omega signed))
    (stored_is (energy -ℤ reserve) (omega signed))

pub min_low : {x w : ℤ} → x ≡ w → int_min x (pos 0) ≤ℤ w
min_low is = omega bounded

pub period_net : (g : ThermalUnit) (π : PriceLists) (index : ℕ) (energy reserve least : ℤ) →
    slice_get π.energy index ≡ Some energy → slice_get π.reserve index ≡ Some reserve →
    ((p r : ℤ) → g.min_power ≤ℤ p → (p +ℤ r) ≤ℤ g.max_power → pos 0 ≤ℤ r →
    least ≤ℤ (envelope g.points p -ℤ ((energy *ℤ p) +ℤ (reserve *ℤ r)))) →
    (d : Schedule) → IsInRange g d index → least ≤ℤ net_cost g π d (suc index)
period_net g π index energy reserve least at_energy at_reserve each d range =
    let e : int_at π.energy index ≡ energy = get_or_from_slice_get π.energy index energy (pos 0) at_energy in
    let r : int_at π.reserve index ≡ reserve = get_or_from_slice_get π.reserve index reserve (pos 0) at_reserve in
    rw (e, r) (each (power_in d (suc index)) (reserve_in d (suc index)) range.least range.most (omega signed))

-- one point more: what is at most its net and the least before it is at most each
pub net_beside : (points : List Point) (at : ℕ) (none : Point) (price before net least : ℤ) →
    net ≡ (get_or points at none).cost -ℤ (price *ℤ (get_or points at none).at) → least ≡ int_min net before →
    ((k : ℕ) (d : Point) → k < at → before ≤ℤ
    ((slice_index_or points k d).cost -ℤ (price *ℤ (slice_index_or points k d).at))) →
    at < length points → (k : ℕ) (d : Point) → k < at + 1 →
    least ≤ℤ ((slice_index_or points k d).cost -ℤ (price *ℤ (slice_index_or points k d).at))
net_beside points at none price before net least net_is least_is all inside k d low = elim (cases_lt k at) [
  | inl less ↦ let each = all k d less in omega bounded
  | inr most ↦
      let z : k ≡ at = omega arith in
      let item : get_or points at d ≡ get_or points at none =
      get_or_from_slice_get points at (get_or points at none) d (slice_get-get_or points at none inside) in
      rw (z, item) (omega bounded)
]
