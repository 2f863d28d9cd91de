-- Sums over all units are sums over their schedules; what a bid buys counts below 0.
use Rattle.plan_check.proofs.Common.{◌≡◌, ℕ, zero, suc, ◌+◌, ◌≤◌, ℤ, pos, neg_ℤ, ◌+ℤ◌, ◌-ℤ◌, Bool, true, false, ◌&&◌}
use Rattle.plan_check.proofs.Common.{Some, List, [], ◌∷◌, ◌++◌, map, length, take, drop, refl, ap, ◌∙◌, arith}
use Rattle.plan_check.proofs.Common.{length-append}
use Rattle.plan_check.proofs.Common.{length-take, length-drop, ints, length-map, All-append, All-map, int_le, slice_get}
use Rattle.plan_check.proofs.Common.{All, AnyUnit, Thermal, Flat, Bid, NamedThermalUnit, NamedRenewableUnit}
use Rattle.plan_check.proofs.Common.{NamedBidUnit, Schedule, Market, units, unit_count, supply_in, cost_of, unless}
use Rattle.plan_check.proofs.Common.{power_in, reserve_in, total, total_power, total_reserve, plan_cost, same_item}
use Rattle.plan_check.proofs.Common.{none_some, sum_over, thermal_units, bid_units, powers_at, reserves_at}
use Rattle.std.proofs.Math.Seq.{take-length}
use Rattle.plan_check.proofs.RunLaws.{both_true}
use Rattle.plan_check.proofs.ThermalLaws.{le_from_z}

-- one item more
pub total_map-append : {X Y : Type 0} → (g : Y → ℤ) (f : X → Y) (xs : List X) (x : X) →
    total (map g (map f (xs ++ x ∷ []))) ≡ total (map g (map f xs)) +ℤ g (f x)
total_map-append g f [] x = omega (arith, ints)
total_map-append g f (y ∷ xs) x = omega (arith, ints, total_map-append g f xs x)

-- the sum over all of the units that there are
pub sum_over-whole : (f : AnyUnit → Schedule → ℤ) (us : List AnyUnit) (ss : List Schedule) (n : ℕ) → n ≡ length us →
    sum_over f (take n us) ss ≡ sum_over f us ss
sum_over-whole f us ss n all =
    ap (λ (l : List AnyUnit). sum_over f l ss) (ap (λ (k : ℕ). take k us) all ∙ take-length us)

-- units at the front take the schedules at the front
pub sum_over-front : (f : AnyUnit → Schedule → ℤ) (us vs : List AnyUnit) (ss : List Schedule) → length us ≤ length ss →
    sum_over f (us ++ vs) ss ≡ sum_over f us (take (length us) ss) +ℤ sum_over f vs (drop (length us) ss)
sum_over-front f [] vs ss le = omega (arith, ints)
sum_over-front f (u ∷ us) vs [] le = absurd (omega (arith, le))
sum_over-front f (u ∷ us) vs (s ∷ ss) le = omega (arith, ints, sum_over-front f us vs ss (omega (arith, le)))

-- a term that is a number of the schedule alone, where there is a schedule for each unit
pub sum_over-plain : (f : AnyUnit → Schedule → ℤ) (g : Schedule → ℤ) (us : List AnyUnit) (ss : List Schedule) →
    length us ≡ length ss → All (λ u. (s : Schedule) → f u s ≡ g s) us → sum_over f us ss ≡ total (map g ss)
sum_over-plain f g [] [] len same = refl
sum_over-plain f g [] (s ∷ ss) len same = absurd (omega (arith, len))
sum_over-plain f g (u ∷ us) [] len same = absurd (omega (arith, len))
sum_over-plain f g (u ∷ us) (s ∷ ss) len same =
    let h = same 0 u (omega arith) s in
    omega (arith, ints, h, sum_over-plain f g us ss (omega (arith, len)) (λ k d lt. same (suc k) d (omega (arith, lt))))

total-negated : (g : Schedule → ℤ) (ss : List Schedule) → total (map (λ s. neg_ℤ (g s)) ss) ≡ neg_ℤ (total (map g ss))
total-negated g [] = refl
total-negated g (s ∷ ss) = omega (arith, ints, total-negated g ss)

abbrev flat_units : Market → List AnyUnit
flat_units m = map (λ (n : NamedRenewableUnit). Flat n.unit) m.flat

module _ (m : Market) (plan : List Schedule) (count : length plan ≡ unit_count m) (k : ℕ) where
  abbrev supply : AnyUnit → Schedule → ℤ
  supply u s = supply_in u s (suc k)

  abbrev gives : Schedule → ℤ
  gives s = power_in s (suc k)

  producers_are : length (thermal_units m ++ flat_units m) ≡ length m.thermal + length m.flat
  producers_are = omega (
    arith,
    length-append (thermal_units m) (flat_units m),
    length-map m.thermal (λ (n : NamedThermalUnit). Thermal n.unit),
    length-map m.flat (λ (n : NamedRenewableUnit). Flat n.unit),
  )

  pub total_power_is : total_power (units m) plan k ≡ powers_at (take (length m.thermal + length m.flat) plan)
      k -ℤ powers_at (drop (length m.thermal + length m.flat) plan) k
  total_power_is =
      let n = producers_are in
      let bid_count = length-map m.bids (λ (b : NamedBidUnit). Bid b.unit) in
      let front = take (length (thermal_units m ++ flat_units m)) plan in
      let back = drop (length (thermal_units m ++ flat_units m)) plan in
      let front_length = length-take (length (thermal_units m ++ flat_units m)) plan in
      let back_length = length-drop (length (thermal_units m ++ flat_units m)) plan in
      let split = sum_over-front supply (thermal_units m ++ flat_units m) (bid_units m) plan
      (omega (arith, n, count)) in
      let given = sum_over-plain supply gives (thermal_units m ++ flat_units m) front
      (omega (arith, n, count, front_length))
      (All-append (λ u. (s : Schedule) → supply u s ≡ gives s) (thermal_units m) (flat_units m)
      (All-map (λ u. (s : Schedule) → supply u s ≡ gives s) (λ (x : NamedThermalUnit). Thermal x.unit) m.thermal
      (λ j d lt s. refl))
      (All-map (λ u. (s : Schedule) → supply u s ≡ gives s) (λ (x : NamedRenewableUnit). Flat x.unit) m.flat
      (λ j d lt s. refl))) in
      let bought = sum_over-plain supply (λ s. neg_ℤ (gives s)) (bid_units m) back
      (omega (arith, n, count, back_length, bid_count))
      (All-map (λ u. (s : Schedule) → supply u s ≡ neg_ℤ (gives s)) (λ (x : NamedBidUnit). Bid x.unit) m.bids
      (λ j d lt s. refl)) in
      let negated = total-negated gives back in
      let front_is = ap (λ (j : ℕ). powers_at (take j plan) k) n in
      let back_is = ap (λ (j : ℕ). powers_at (drop j plan) k) n in
      omega (arith, ints, split, given, bought, negated, front_is, back_is)

  pub total_reserve_is : total_reserve (units m) plan k ≡ reserves_at plan k
  total_reserve_is =
      let n = producers_are in
      let whole = length-append (thermal_units m ++ flat_units m) (bid_units m) in
      let bid_count = length-map m.bids (λ (b : NamedBidUnit). Bid b.unit) in
      sum_over-plain (λ u s. reserve_in s (suc k)) (λ s. reserve_in s (suc k)) (units m) plan
      (omega (arith, n, count, whole, bid_count)) (λ j d lt s. refl)

-- ---- the test of the balance

module _ (total_is demand : ℤ) where
  unbalanced_test : (b : Bool) → int_le total_is demand && int_le demand total_is ≡ b → (total_is ≡ demand → ⊥) →
      b ≡ false
  unbalanced_test true e h = let p = both_true (int_le total_is demand) (int_le demand total_is) e in
      let a = le_from_z total_is demand p.0 in let b = le_from_z demand total_is p.1 in
      absurd (h (omega (arith, ints, a, b)))
  unbalanced_test false e h = refl

  pub unbalanced : (total_is ≡ demand → ⊥) →
      unless (int_le total_is demand && int_le demand total_is) total_is demand ≡ Some (total_is, demand)
  unbalanced h = ap (λ t. unless t total_is demand)
      (unbalanced_test (int_le total_is demand && int_le demand total_is) refl h)

-- ---- costs

-- one more unit with its schedule
pub sum_over-more : (f : AnyUnit → Schedule → ℤ) (us : List AnyUnit) (ss : List Schedule) (i : ℕ) (u : AnyUnit)
    (s : Schedule) → slice_get us i ≡ Some u → slice_get ss i ≡ Some s →
    sum_over f (take (i + 1) us) ss ≡ sum_over f (take i us) ss +ℤ f u s
sum_over-more f [] ss i u s e g = absurd (none_some u e)
sum_over-more f (v ∷ us) [] i u s e g = absurd (none_some s g)
sum_over-more f (v ∷ us) (t ∷ ss) zero u s e g =
    let a = ap (λ x. f x t) (same_item v u e) in
    let b = ap (f u) (same_item t s g) in
    omega (arith, ints, a, b)
sum_over-more f (v ∷ us) (t ∷ ss) (suc i) u s e g =
    let next : suc i + 1 ≡ suc (i + 1) = omega arith in
    let n = ap (λ (j : ℕ). sum_over f (take j (v ∷ us)) (t ∷ ss)) next in
    omega (arith, ints, n, sum_over-more f us ss i u s e g)

sum_over-zero : (us : List AnyUnit) (ss : List Schedule) → All (λ u. (s : Schedule) → cost_of u s ≡ pos 0) us →
    sum_over cost_of us ss ≡ pos 0
sum_over-zero [] ss h = refl
sum_over-zero (u ∷ us) [] h = refl
sum_over-zero (u ∷ us) (s ∷ ss) h = let a = h 0 u (omega arith) s in
    omega (arith, ints, a, sum_over-zero us ss (λ k d lt. h (suc k) d (omega (arith, lt))))

-- more schedules than units change nothing
sum_over-take : (f : AnyUnit → Schedule → ℤ) (us : List AnyUnit) (ss : List Schedule) →
    sum_over f us (take (length us) ss) ≡ sum_over f us ss
sum_over-take f [] ss = refl
sum_over-take f (u ∷ us) [] = refl
sum_over-take f (u ∷ us) (s ∷ ss) = ap (λ (z : ℤ). f u s +ℤ z) (sum_over-take f us ss)

pub plan_cost_is : (m : Market) (plan : List Schedule) → length plan ≡ unit_count m →
    plan_cost m plan ≡ sum_over cost_of (thermal_units m) plan +ℤ sum_over cost_of (bid_units m)
    (drop (length m.thermal + length m.flat) plan)
plan_cost_is m plan count =
    let n = producers_are m plan count 0 in
    let ts = thermal_units m in
    let fs = flat_units m in
    let bs = bid_units m in
    let thermal_count = length-map m.thermal (λ (x : NamedThermalUnit). Thermal x.unit) in
    let outer = sum_over-front cost_of (ts ++ fs) bs plan (omega (arith, n, count)) in
    let whole = sum_over-front cost_of ts fs plan (omega (arith, n, count, thermal_count)) in
    let whole_front = sum_over-take cost_of (ts ++ fs) plan in
    let whole_zero = sum_over-zero fs (drop (length ts) plan)
    (All-map (λ u. (s : Schedule) → cost_of u s ≡ pos 0) (λ (x : NamedRenewableUnit). Flat x.unit) m.flat
    (λ j d lt s. refl)) in
    let whole_thermal = sum_over-take cost_of ts plan in
    let back = ap (λ (j : ℕ). sum_over cost_of bs (drop j plan)) n in
    omega (arith, ints, outer, whole, whole_front, whole_zero, whole_thermal, back)
