-- How large the totals, costs and earnings of all units together can be.
use Rattle.uc_model.proofs.Common.{◌≡◌, ℕ, suc, ◌+◌, ◌*◌, ◌≤◌, ℤ, pos, neg_ℤ, ◌+ℤ◌, ◌*ℤ◌, ◌≤ℤ◌, List, [], ◌∷◌, ◌++◌}
use Rattle.uc_model.proofs.Common.{map, length, refl, ap, ◌∙◌, subst, arith, mul-le-mul_left, ints, All-append, All-map}
use Rattle.uc_model.proofs.Common.{All, AllZip, most_given, least_given, GivesWithin, UnitsAreWithin}
use Rattle.uc_model.proofs.Common.{PowerAndReserveTotalsAreWithin}
use Rattle.uc_model.proofs.Common.{EarnedSumsAreWithin, PlanCostsAreWithin, DemandWorthIsWithin, DualValuesAreWithin}
use Rattle.uc_model.proofs.Common.{AnyUnit, Thermal, Flat, Bid, PriceLists, Schedule, Market, NamedThermalUnit}
use Rattle.uc_model.proofs.Common.{NamedRenewableUnit, NamedBidUnit, units, cost_of, supply_in, IsTop, IsUnit, IsMarket}
use Rattle.uc_model.proofs.Common.{IsUnitCost, IsEarned, ArePrices, reserve_in, IsFeasible, int_at, total, zip_with}
use Rattle.uc_model.proofs.Common.{total_power, total_reserve, plan_cost, worth_of_demand}
use Rattle.uc_model.proofs.Bounds.{costs_within, earnings_within}
use Rattle.plain_lists.proofs.ListLaws.{head_of, tail_of, map-append, map-map, total-append, length_same, all_nil}
use Rattle.plain_lists.proofs.ListLaws.{all_cons}
use Rattle.uc_model.proofs.PlanShapes.{length-units}
use Rattle.plain_lists.proofs.SignedLaws.{IsWithin, sum_within, product_within, sum_at_most, wider}

-- ---- the units of a case

pub units_within : UnitsAreWithin
units_within m h =
    All-append IsUnit (map (λ (n : NamedThermalUnit). Thermal n.unit) m.thermal ++ map
    (λ (n : NamedRenewableUnit). Flat n.unit) m.flat) (map (λ (n : NamedBidUnit). Bid n.unit) m.bids)
    (All-append IsUnit (map (λ (n : NamedThermalUnit). Thermal n.unit) m.thermal)
    (map (λ (n : NamedRenewableUnit). Flat n.unit) m.flat)
    (All-map IsUnit (λ (n : NamedThermalUnit). Thermal n.unit) m.thermal (λ k d lt. (h.thermal k d lt).0))
    (All-map IsUnit (λ (n : NamedRenewableUnit). Flat n.unit) m.flat (λ k d lt. (h.flat k d lt).0)))
    (All-map IsUnit (λ (n : NamedBidUnit). Bid n.unit) m.bids (λ k d lt. (h.bids k d lt).0))

units_few : (m : Market) → IsMarket m → length (units m) ≤ 12288
units_few m h =
    let n = length-units m in
    let t = h.thermal_count in
    let f = h.flat_count in
    let b = h.bid_count in
    omega (arith, n, t, f, b)

-- ---- sums over units

total_times : {X : Type 0} (c : ℕ) (xs : List X) → total (map (λ x. pos c) xs) ≡ pos (length xs * c)
total_times c [] = omega (arith, ints)
total_times c (x ∷ xs) = omega (arith, ints, total_times c xs)

total_times_below : {X : Type 0} (c : ℕ) (xs : List X) →
    total (map (λ x. neg_ℤ (pos c)) xs) ≡ neg_ℤ (pos (length xs * c))
total_times_below c [] = omega (arith, ints)
total_times_below c (x ∷ xs) = omega (arith, ints, total_times_below c xs)

-- a function of units, summed over the units of a case, kind by kind
total_by_kind : (m : Market) (f : AnyUnit → ℤ) → total (map f (units m)) ≡
    (total (map (λ (n : NamedThermalUnit). f (Thermal n.unit)) m.thermal) +ℤ total
    (map (λ (n : NamedRenewableUnit). f (Flat n.unit)) m.flat)) +ℤ total
    (map (λ (n : NamedBidUnit). f (Bid n.unit)) m.bids)
total_by_kind m f =
    let ts = map (λ (n : NamedThermalUnit). Thermal n.unit) m.thermal in
    let fs = map (λ (n : NamedRenewableUnit). Flat n.unit) m.flat in
    let bs = map (λ (n : NamedBidUnit). Bid n.unit) m.bids in
    let a = ap total (map-append f (ts ++ fs) bs) ∙ total-append (map f (ts ++ fs)) (map f bs) in
    let b = ap total (map-append f ts fs) ∙ total-append (map f ts) (map f fs) in
    let t = ap total (map-map f (λ (n : NamedThermalUnit). Thermal n.unit) m.thermal) in
    let r = ap total (map-map f (λ (n : NamedRenewableUnit). Flat n.unit) m.flat) in
    let d = ap total (map-map f (λ (n : NamedBidUnit). Bid n.unit) m.bids) in
    omega (arith, ints, a, b, t, r, d)

-- a sum over units and schedules is between the sums of what the units may give at least and at most
zip_between : (f : AnyUnit → Schedule → ℤ) (low high : AnyUnit → ℤ) (us : List AnyUnit) (ss : List Schedule) →
    AllZip (λ u s. (low u ≤ℤ f u s) × (f u s ≤ℤ high u)) us ss →
    (total (map low us) ≤ℤ total (zip_with f us ss)) × (total (zip_with f us ss) ≤ℤ total (map high us))
zip_between f low high [] [] h = (omega (arith, ints), omega (arith, ints))
zip_between f low high [] (s ∷ ss) h = absurd h
zip_between f low high (u ∷ us) [] h = absurd h
zip_between f low high (u ∷ us) (s ∷ ss) h =
    let r = zip_between f low high us ss h.1 in
    let a = h.0.0 in
    let b = h.0.1 in
    let c = r.0 in
    let d = r.1 in
    (omega (arith, ints, a, c), omega (arith, ints, b, d))

zip_maps : {X Y : Type 0} (P Q : X → Y → Type 0) (xs : List X) (ys : List Y) → ((x : X) (y : Y) → P x y → Q x y) →
    AllZip P xs ys → AllZip Q xs ys
zip_maps P Q [] [] each h = h
zip_maps P Q [] (y ∷ ys) each h = absurd h
zip_maps P Q (x ∷ xs) [] each h = absurd h
zip_maps P Q (x ∷ xs) (y ∷ ys) each h = (each x y h.0, zip_maps P Q xs ys each h.1)

module _ (m : Market) (plan : List Schedule) (limits : IsMarket m)
    (given : AllZip (λ u s. (k : ℕ) → GivesWithin u s k) (units m) plan) (k : ℕ) where
  supply_within : IsWithin 10000000000000 (total_power (units m) plan k)
  supply_within =
      let f : AnyUnit → Schedule → ℤ = λ u s. supply_in u s (suc k) in
      let z = zip_between f least_given most_given (units m) plan
      (zip_maps (λ u s. (j : ℕ) → GivesWithin u s j) (λ u s. (least_given u ≤ℤ f u s) × (f u s ≤ℤ most_given u))
      (units m) plan (λ u s g. ((g k).least, (g k).most)) given) in
      let lo = z.0 in
      let hi = z.1 in
      let low = total_by_kind m least_given in
      let high = total_by_kind m most_given in
      let a = total_times 0 m.thermal in
      let c = total_times 0 m.flat in
      let d = total_times_below 1000000000 m.bids in
      let e = total_times 10000000 m.thermal in
      let g = total_times 1000000000 m.flat in
      let i = total_times 0 m.bids in
      let tc = limits.thermal_count in
      let fc = limits.flat_count in
      let bc = limits.bid_count in
      record {
        at_least = omega (arith, ints, lo, low, a, c, d, bc);
        at_most =
            omega (arith, ints, hi, high, e, g, i, tc, fc);
      }

  reserve_within : IsWithin 10000000000000 (total_reserve (units m) plan k)
  reserve_within =
      let f : AnyUnit → Schedule → ℤ = λ u s. reserve_in s (suc k) in
      let z = zip_between f (λ u. pos 0) (λ u. pos 10000000) (units m) plan
      (zip_maps (λ u s. (j : ℕ) → GivesWithin u s j) (λ u s. (pos 0 ≤ℤ f u s) × (f u s ≤ℤ pos 10000000)) (units m) plan
      (λ u s g. (omega (arith, ints), (g k).reserve)) given) in
      let lo = z.0 in
      let hi = z.1 in
      let a = total_times 0 (units m) in
      let c = total_times 10000000 (units m) in
      let few = units_few m limits in
      record { at_least = omega (arith, ints, lo, a); at_most = omega (arith, ints, hi, c, few) }

pub totals_within : PowerAndReserveTotalsAreWithin
totals_within m plan limits given k = (supply_within m plan limits given k, reserve_within m plan limits given k)

-- ---- costs and earnings of all units

total_within : (c : ℕ) (xs : List ℤ) → All (IsWithin c) xs → IsWithin (c * length xs) (total xs)
total_within c [] h = record { at_least = omega (arith, ints); at_most = omega (arith, ints) }
total_within c (x ∷ xs) h =
    let more : c + c * length xs ≡ c * suc (length xs) = omega arith in
    subst (λ n. IsWithin n (x +ℤ total xs)) more
    (sum_within c (c * length xs) x (total xs) (head_of (IsWithin c) x xs h)
    (total_within c xs (tail_of (IsWithin c) x xs h)))

total_few : (c n : ℕ) (xs : List ℤ) → length xs ≤ n → All (IsWithin c) xs → IsWithin (c * n) (total xs)
total_few c n xs few h = wider (c * length xs) (c * n) (total xs) (mul-le-mul_left c few) (total_within c xs h)

pub earned_sums_within : EarnedSumsAreWithin
earned_sums_within m earned limits few each =
    let u = units_few m limits in
    wider 43008000000000000000000 100000000000000000000000 (total earned) (omega arith)
    (total_few 3500000000000000000 12288 earned (omega (arith, few, u)) each)

zip_costs : (n : ℕ) → n ≤ 168 → (us : List AnyUnit) (ss : List Schedule) → All IsUnit us →
    AllZip (λ u s. IsFeasible u n s) us ss →
    All IsUnitCost (zip_with cost_of us ss) × (length (zip_with cost_of us ss) ≡ length us)
zip_costs n few [] [] limits h = (all_nil IsUnitCost, refl)
zip_costs n few [] (s ∷ ss) limits h = absurd h
zip_costs n few (u ∷ us) [] limits h = absurd h
zip_costs n few (u ∷ us) (s ∷ ss) limits h =
    let r = zip_costs n few us ss (tail_of IsUnit u us limits) h.1 in (
      all_cons IsUnitCost (cost_of u s) (zip_with cost_of us ss)
          (costs_within u s n few (head_of IsUnit u us limits) h.0) r.0,
      ap suc r.1,
    )

pub plan_costs_within : PlanCostsAreWithin
plan_costs_within m plan limits h =
    let c = zip_costs m.periods limits.horizon.at_most (units m) plan (units_within m limits) h.feasible in
    let long = c.1 in
    let few = units_few m limits in
    wider 20889600000000000000000 100000000000000000000000 (plan_cost m plan) (omega arith)
    (total_few 1700000000000000000 12288 (zip_with cost_of (units m) plan) (omega (arith, long, few)) c.0)

tops_within : (π : PriceLists) (us : List AnyUnit) (es : List ℤ) → ArePrices π → All IsUnit us →
    AllZip (λ u e. IsTop u π e) us es → All IsEarned es
tops_within π [] [] prices limits h = all_nil IsEarned
tops_within π [] (e ∷ es) prices limits h = absurd h
tops_within π (u ∷ us) [] prices limits h = absurd h
tops_within π (u ∷ us) (e ∷ es) prices limits h =
    let top = h.0 in
    all_cons IsEarned e es
    (subst IsEarned top.earns (earnings_within u π top.schedule (head_of IsUnit u us limits) prices top.best.feasible))
    (tops_within π us es prices (tail_of IsUnit u us limits) h.1)

pub demand_worth_within : DemandWorthIsWithin
demand_worth_within m π limits prices long =
    let same = prices.lengths in
    let dl = limits.demand_length in
    let rl = limits.reserves_length in
    wider 3360000000000000000 100000000000000000000000 (worth_of_demand m π) (omega arith)
    (sum_at_most 20000000000000000 168 m.periods
    (λ k. (int_at π.energy k *ℤ int_at m.demand k) +ℤ (int_at π.reserve k *ℤ int_at m.reserves k))
    limits.horizon.at_most
    (λ k i.
    let r = prices.reserve k (pos 0) (omega (arith, i, same, long)) in
    let low = r.at_least in
    sum_within 10000000000000000 10000000000000000 _ _
    (product_within 10000000 1000000000 (int_at π.energy k) (int_at m.demand k)
    (prices.energy k (pos 0) (omega (arith, i, long))) (limits.demand k (pos 0) (omega (arith, i, dl))))
    (product_within 10000000 1000000000 (int_at π.reserve k) (int_at m.reserves k)
    (record { at_least = omega (arith, ints, low); at_most = r.at_most })
    (limits.reserves k (pos 0) (omega (arith, i, rl))))))

pub dual_values_within : DualValuesAreWithin
dual_values_within m π value limits prices long dual =
    let many = length_same (λ u e. IsTop u π e) (units m) dual.tops dual.best in
    let e = earned_sums_within m dual.tops limits (omega (arith, many))
    (tops_within π (units m) dual.tops prices (units_within m limits) dual.best) in
    let w = demand_worth_within m π limits prices long in
    let is = dual.is in
    let el = e.at_least in
    let em = e.at_most in
    let wl = w.at_least in
    let wm = w.at_most in
    record { at_least = omega (arith, ints, is, em, wl); at_most = omega (arith, ints, is, el, wm) }
