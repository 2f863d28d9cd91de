-- The fixed case of a plan: within the limits, feasible at the same cost, with dual values between.
use Rattle.plan_settle.proofs.Common.{◌≡◌, ℕ, suc, ◌+◌, ◌<◌, ℤ, ◌≤ℤ◌, List, [], ◌∷◌, ◌++◌, map, length, refl, sym, ap}
use Rattle.plan_settle.proofs.Common.{◌∙◌, subst, Some, arith, ints, length-map, slice_get_within}
use Rattle.plan_settle.proofs.Common.{get_or_from_slice_get, All, AllZip, slice_get, ThermalUnit, NamedThermalUnit}
use Rattle.plan_settle.proofs.Common.{AnyUnit, Thermal, PriceLists}
use Rattle.plan_settle.proofs.Common.{Schedule, Market, units, unit_count, IsFeasible, reserve_in, int_at, total}
use Rattle.plan_settle.proofs.Common.{zip_with, held_mark, held_unit, held_named, fixed_market}
use Rattle.std.proofs.Common.{pos}
use Rattle.std.proofs.lemmas.List.Elements.{All-head, All-tail, All-cons, All-nil}
use Rattle.uc_model.specs.Earnings.{cost_of, earnings, supply_in, IsTop}
use Rattle.uc_model.specs.Laws.{DualIsAtMostCost}
use Rattle.uc_model.specs.Limits.{IsThermalUnit, IsMarket}
use Rattle.uc_model.specs.Systems.{IsFeasiblePlan, plan_cost, IsDualValue}
use Rattle.plan_settle.specs.HeldLaws.{PlanStaysFeasibleWithFixedCommitments}
use Rattle.plan_check.proofs.UnitsApart.{any_thermal, others, apart, plan_apart}
use Rattle.plan_settle.proofs.Held.{held_feasible, given_feasible}

apart_held : (m : Market) (plan : List Schedule) →
    units (fixed_market m plan) ≡ map any_thermal (zip_with held_named m.thermal plan) ++ others m
apart_held m plan = apart (fixed_market m plan)

zip_with-nil : {A B C : Type 0} → (f : A → B → C) (xs : List A) → zip_with f xs [] ≡ []
zip_with-nil f [] = refl
zip_with-nil f (x ∷ xs) = refl

-- what doesn't look at windows is the same of the held units
held_same : {C : Type 0} → (f : AnyUnit → Schedule → C) →
    ((g : ThermalUnit) (held s : Schedule) → f (Thermal (held_unit g held)) s ≡ f (Thermal g) s) →
    (ts : List NamedThermalUnit) (rest : List AnyUnit) (plan : List Schedule) →
    zip_with f (map any_thermal (zip_with held_named ts plan) ++ rest) plan ≡ zip_with f (map any_thermal ts ++ rest)
    plan
held_same f same [] rest plan = refl
held_same f same (t ∷ ts) rest [] = zip_with-nil f rest
held_same f same (t ∷ ts) rest (s ∷ ss) =
    ap (λ c. c ∷ zip_with f (map any_thermal (zip_with held_named ts ss) ++ rest) ss) (same t.unit s s)
    ∙ ap (λ cs. f (Thermal t.unit) s ∷ cs) (held_same f same ts rest ss)

-- each schedule of a plan is feasible for its held unit
plan_held : (n : ℕ) (ts : List NamedThermalUnit) (rest : List AnyUnit) (plan : List Schedule) →
    AllZip (λ u s. IsFeasible u n s) (map any_thermal ts ++ rest) plan →
    AllZip (λ u s. IsFeasible u n s) (map any_thermal (zip_with held_named ts plan) ++ rest) plan
plan_held n [] rest plan h = h
plan_held n (t ∷ ts) rest [] h = absurd h
plan_held n (t ∷ ts) rest (s ∷ ss) h = (held_feasible t.unit n s s h.0 refl, plan_held n ts rest ss h.1)

tops_apart : (m : Market) (π : PriceLists) (xs : List ℤ) → AllZip (λ u e. IsTop u π e) (units m) xs →
    AllZip (λ u e. IsTop u π e) (map any_thermal m.thermal ++ others m) xs
tops_apart m π xs h = subst (λ (us : List AnyUnit). AllZip (λ u e. IsTop u π e) us xs) (apart m) h

-- a sum over the plan is the same in the fixed case
sum_stays : (m : Market) (plan : List Schedule) (f : AnyUnit → Schedule → ℤ) →
    ((g : ThermalUnit) (held s : Schedule) → f (Thermal (held_unit g held)) s ≡ f (Thermal g) s) →
    total (zip_with f (units (fixed_market m plan)) plan) ≡ total (zip_with f (units m) plan)
sum_stays m plan f same =
    ap (λ (us : List AnyUnit). total (zip_with f us plan)) (apart_held m plan)
    ∙ ap total (held_same f same m.thermal (others m) plan)
    ∙ ap (λ (us : List AnyUnit). total (zip_with f us plan)) (sym (apart m))

-- ---- within the limits

pub held_limits : (g : ThermalUnit) (s : Schedule) (n : ℕ) → IsThermalUnit g → length g.window ≡ n → length s.on ≡ n →
    IsThermalUnit (held_unit g s)
held_limits g s n h window len = record {
  min_power = h.min_power;
  max_power = h.max_power;
  range = h.range;
  ramp_up = h.ramp_up;
  ramp_down = h.ramp_down;
  start_limit = h.start_limit;
  stop_limit = h.stop_limit;
  min_up = h.min_up;
  min_up_is_one_or_more = h.min_up_is_one_or_more;
  min_down = h.min_down;
  min_down_is_one_or_more = h.min_down_is_one_or_more;
  power0 = h.power0;
  up0 = h.up0;
  down0 = h.down0;
  lag_count = h.lag_count;
  lags = h.lags;
  lags_ordered = h.lags_ordered;
  point_count = h.point_count;
  some_point = h.some_point;
  points = h.points;
  points_ordered = h.points_ordered;
  span = h.span;
  horizon =
      let mapped = length-map s.on held_mark in
      let a = h.horizon.at_least in
      let b = h.horizon.at_most in
      record { at_least = omega (arith, mapped, window, len, a); at_most = omega (arith, mapped, window, len, b) };
}

abbrev pub IsUnitOver : ℕ → NamedThermalUnit → Type 0
IsUnitOver n t = IsThermalUnit t.unit × (length t.unit.window ≡ n)

pub units_held : (n : ℕ) (ts : List NamedThermalUnit) (rest : List AnyUnit) (plan : List Schedule) →
    All (IsUnitOver n) ts → AllZip (λ u s. IsFeasible u n s) (map any_thermal ts ++ rest) plan →
    All (IsUnitOver n) (zip_with held_named ts plan) × (length (zip_with held_named ts plan) ≡ length ts)
units_held n [] rest plan limits h = (All-nil (IsUnitOver n), refl)
units_held n (t ∷ ts) rest [] limits h = absurd h
units_held n (t ∷ ts) rest (s ∷ ss) limits h =
    let one = All-head (IsUnitOver n) t ts limits in
    let more = units_held n ts rest ss (All-tail (IsUnitOver n) t ts limits) h.1 in
    let own = h.0 in
    let len = own.schedule.on in (
      All-cons (IsUnitOver n) (held_named t s) (zip_with held_named ts ss)
          (held_limits t.unit s n one.0 one.1 len, length-map s.on held_mark ∙ len) more.0,
      ap suc more.1,
    )

pub market_held : (m : Market) (plan : List Schedule) → IsMarket m → IsFeasiblePlan m plan →
    IsMarket (fixed_market m plan)
market_held m plan h f =
    let held = units_held m.periods m.thermal (others m) plan h.thermal (plan_apart m m.periods plan f.feasible) in
    let same = held.1 in
    let count = h.thermal_count in
    let some = h.some_unit in
    record {
      horizon = h.horizon;
      demand_length = h.demand_length;
      demand = h.demand;
      reserves_length = h.reserves_length;
      reserves = h.reserves;
      thermal_count = omega (arith, same, count);
      flat_count = h.flat_count;
      bid_count = h.bid_count;
      some_unit = omega (arith, same, some);
      thermal = held.0;
      flat = h.flat;
      bids = h.bids;
    }

-- the cost points are those of the case as given
points_stay : (n : ℕ) (ts : List NamedThermalUnit) (rest : List AnyUnit) (plan : List Schedule) →
    AllZip (λ u s. IsFeasible u n s) (map any_thermal ts ++ rest) plan →
    map (λ (t : NamedThermalUnit). t.unit.points) (zip_with held_named ts plan) ≡ map
    (λ (t : NamedThermalUnit). t.unit.points) ts
points_stay n [] rest plan h = refl
points_stay n (t ∷ ts) rest [] h = absurd h
points_stay n (t ∷ ts) rest (s ∷ ss) h = ap (λ l. t.unit.points ∷ l) (points_stay n ts rest ss h.1)

count_stays : (m : Market) (plan : List Schedule) →
    map (λ (n : NamedThermalUnit). n.unit.points) (fixed_market m plan).thermal ≡ map
    (λ (n : NamedThermalUnit). n.unit.points) m.thermal → unit_count (fixed_market m plan) ≡ unit_count m
count_stays m plan e =
    let points = λ (t : NamedThermalUnit). t.unit.points in
    let long = sym (length-map (fixed_market m plan).thermal points) ∙ ap length e ∙ length-map m.thermal points in
    ap (λ (k : ℕ). k + length m.flat + length m.bids) long

-- ---- the plan

plan_stays : (m : Market) (plan : List Schedule) → IsFeasiblePlan m plan → IsFeasiblePlan (fixed_market m plan) plan
plan_stays m plan f = record {
  feasible = subst (λ (us : List AnyUnit). AllZip (λ u s. IsFeasible u m.periods s) us plan) (sym (apart_held m plan))
      (plan_held m.periods m.thermal (others m) plan (plan_apart m m.periods plan f.feasible));
  balance = λ k lt. sum_stays m plan (λ (u : AnyUnit) (s : Schedule). supply_in u s (suc k)) (λ g held s. refl) ∙
      f.balance k lt;
  reserve = λ k lt. subst (λ (z : ℤ). int_at m.reserves k ≤ℤ z)
      (sym (sum_stays m plan (λ (u : AnyUnit) (s : Schedule). reserve_in s (suc k)) (λ g held s. refl)))
      (f.reserve k lt);
}

cost_stays : (m : Market) (plan : List Schedule) → plan_cost (fixed_market m plan) plan ≡ plan_cost m plan
cost_stays m plan = sum_stays m plan cost_of (λ g held s. refl)

-- ---- dual values

-- fewer schedules earn no more
lower_top : (u v : AnyUnit) (π : PriceLists) (a b : ℤ) →
    ((s : Schedule) → IsFeasible v (length π.energy) s → IsFeasible u (length π.energy) s) →
    ((s : Schedule) → earnings v π s ≡ earnings u π s) → IsTop u π a → IsTop v π b → b ≤ℤ a
lower_top u v π a b fewer same h i =
    let most = h.best.greatest i.schedule (fewer i.schedule i.best.feasible) in
    let e = same i.schedule in
    let p = h.earns in
    let q = i.earns in
    omega (arith, ints, most, e, p, q)

others_top : (π : PriceLists) (us : List AnyUnit) (xs ys : List ℤ) → AllZip (λ u e. IsTop u π e) us xs →
    AllZip (λ u e. IsTop u π e) us ys → total ys ≤ℤ total xs
others_top π [] [] [] h i = omega (arith, ints)
others_top π [] [] (y ∷ ys) h i = absurd i
others_top π [] (x ∷ xs) ys h i = absurd h
others_top π (u ∷ us) [] ys h i = absurd h
others_top π (u ∷ us) (x ∷ xs) [] h i = absurd i
others_top π (u ∷ us) (x ∷ xs) (y ∷ ys) h i =
    omega (arith, ints, lower_top u u π x y (λ s f. f) (λ s. refl) h.0 i.0, others_top π us xs ys h.1 i.1)

tops_held : (π : PriceLists) (ts : List NamedThermalUnit) (rest : List AnyUnit) (plan : List Schedule)
    (xs ys : List ℤ) →
    AllZip (λ u s. IsFeasible u (length π.energy) s) (map any_thermal ts ++ rest) plan →
    AllZip (λ u e. IsTop u π e) (map any_thermal ts ++ rest) xs →
    AllZip (λ u e. IsTop u π e) (map any_thermal (zip_with held_named ts plan) ++ rest) ys → total ys ≤ℤ total xs
tops_held π [] rest plan xs ys f h i = others_top π rest xs ys h i
tops_held π (t ∷ ts) rest [] xs ys f h i = absurd f
tops_held π (t ∷ ts) rest (s ∷ ss) [] ys f h i = absurd h
tops_held π (t ∷ ts) rest (s ∷ ss) (x ∷ xs) [] f h i = absurd i
tops_held π (t ∷ ts) rest (s ∷ ss) (x ∷ xs) (y ∷ ys) f h i =
    omega (
      arith,
      ints,
      lower_top (Thermal t.unit) (Thermal (held_unit t.unit s)) π x y
          (λ r g. given_feasible t.unit (length π.energy) s r f.0 g) (λ r. refl) h.0 i.0,
      tops_held π ts rest ss xs ys f.1 h.1 i.1,
    )

dual_rises : (m : Market) (plan : List Schedule) (π : PriceLists) (value fixed : ℤ) → IsFeasiblePlan m plan →
    length π.energy ≡ m.periods → IsDualValue m π value → IsDualValue (fixed_market m plan) π fixed → value ≤ℤ fixed
dual_rises m plan π value fixed f horizon dual held =
    let there : AllZip (λ u s. IsFeasible u (length π.energy) s) (units m) plan =
    subst (λ (n : ℕ). AllZip (λ u s. IsFeasible u n s) (units m) plan) (sym horizon) f.feasible in
    let less = tops_held π m.thermal (others m) plan dual.tops held.tops (plan_apart m (length π.energy) plan there)
    (tops_apart m π dual.tops dual.best) (tops_apart (fixed_market m plan) π held.tops held.best) in
    let a = dual.is in
    let b = held.is in
    omega (arith, ints, less, a, b)

pub fixing : DualIsAtMostCost → PlanStaysFeasibleWithFixedCommitments
fixing law m plan h f =
    let points = points_stay m.periods m.thermal (others m) plan (plan_apart m m.periods plan f.feasible) in
    record {
      market = market_held m plan h f;
      count = count_stays m plan points;
      points = points;
      feasible = plan_stays m plan f;
      cost = cost_stays m plan;
      rises = λ π value fixed prices horizon dual held. dual_rises m plan π value fixed f horizon dual held;
      at_most = λ π fixed prices horizon held.
          let low : (k : ℕ) → k < m.periods → pos 0 ≤ℤ int_at π.reserve k =
          λ k i. (prices.reserve k (pos 0) (let a = prices.lengths in omega (arith, i, a, horizon))).at_least in
          subst (λ (z : ℤ). fixed ≤ℤ z) (cost_stays m plan)
          (law (fixed_market m plan) plan π fixed (plan_stays m plan f)
          (record { horizon = horizon; reserve = low }) held);
    }

-- a thermal unit's window is over the horizon
pub window_length : (m : Market) → IsMarket m → (k : ℕ) (t : NamedThermalUnit) → slice_get m.thermal k ≡ Some t →
    length t.unit.window ≡ m.periods
window_length m h k t e =
    let within = slice_get_within m.thermal k t e in
    let known = (h.thermal k t within).1 in
    ap (λ (n : NamedThermalUnit). length n.unit.window) (sym (get_or_from_slice_get m.thermal k t t e)) ∙ known
