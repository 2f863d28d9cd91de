-- A generated case is within the limits, and its schedule is feasible.
use Rattle.case_make.proofs.Common.{◌≡◌, ℕ, suc, ◌*◌, ◌/◌, ◌<◌, ◌≤◌, ℤ, pos, ◌≤ℤ◌, Bool, true, false, if◌then◌else◌}
use Rattle.case_make.proofs.Common.{List, [], ◌∷◌, ◌++◌, map, replicate, length, get_or, slice_index, slice_index_or}
use Rattle.case_make.proofs.Common.{refl, ap, sym, ◌∙◌, subst, arith, ints, append-nil, length-replicate}
use Rattle.case_make.proofs.Common.{get_or-replicate, All-map, All-nil, length-map-range_with_len}
use Rattle.case_make.proofs.Common.{get_or-map-range_with_len, sum_by-cons, All, AllZip, sum_by, range_with_len, Lcg}
use Rattle.case_make.proofs.Common.{Free, AnyUnit, Thermal, Flat, NamedThermalUnit, NamedRenewableUnit, NamedBidUnit}
use Rattle.case_make.proofs.Common.{Schedule, Market, units, IsPower, IsThermalUnit, IsRenewableUnit, IsBidUnit}
use Rattle.case_make.proofs.Common.{IsMarket, reserve_in, IsThermalFeasible, IsFeasible, int_at, total, zip_with}
use Rattle.case_make.proofs.Common.{UnitDraws, unit_draws, max_of, min_of, ramp_of, is_on, level_of, high_of}
use Rattle.case_make.proofs.Common.{reserve_of, is_high, power_at, unit_of, running, idle, unit_schedule, most_powers}
use Rattle.case_make.proofs.Common.{renewable_of, IsSmall, unit_place, named_unit, unit_plan, thermal_units}
use Rattle.case_make.proofs.Common.{thermal_plan, renewable_place, named_renewable, renewable_plan, renewable_units}
use Rattle.case_make.proofs.Common.{renewable_plans, power_sum, reserve_sum, demand_of, requirement_of, plan_from}
use Rattle.case_make.proofs.Common.{market_from, AreDrawn}
use Rattle.uc_model.specs.Earnings.{supply_in}
use Rattle.uc_model.specs.Systems.{total_power, total_reserve, IsFeasiblePlan}
use Rattle.case_make.proofs.Bounds.{has_range, draws_within}
use Rattle.case_make.proofs.FeasibleLaws.{Stays, IsBetween, IsIdle, on_feasible, off_feasible}
use Rattle.case_make.proofs.RenewableLaws.{powers_within, renewable_limited, full_feasible}
use Rattle.case_make.proofs.SumLaws.{thermal_small, grown_small}
use Rattle.case_make.proofs.UnitLaws.{unit_limited}

-- ---- one thermal unit

free_window : (k : ℕ) → k < 48 → slice_index_or (replicate 48 Free) k Free ≡ Free
free_window k low = get_or-replicate 48 k Free Free low

power_between : (low high k : ℕ) → low ≤ high → (low ≤ power_at low high k) × (power_at low high k ≤ high)
unfolding power_at
power_between low high k h =
    elim (is_high k) as (λ (b : Bool). (low ≤ (if b then high else low)) × ((if b then high else low) ≤ high)) [
      | true ↦ (h, omega arith)
      | false ↦ (omega arith, h)
    ]

power_is : (low high k : ℕ) → k < 48 →
    slice_index (map (power_at low high) (range_with_len 0 48)) k ≡ power_at low high k
power_is low high k i = get_or-map-range_with_len (power_at low high) 0 48 k k 0 i (omega arith)

stays_on : (d : UnitDraws) → is_on d ≡ true →
    Stays 48 true (unit_of d) (running (level_of d) (high_of d) (reserve_of d))
unfolding unit_of running
stays_on d e = record {
  on = length-replicate 48 true;
  power = length-map-range_with_len (power_at (level_of d) (high_of d)) 0 48;
  reserve = length-replicate 48 (reserve_of d);
  flags = λ k i. get_or-replicate 48 k true false i;
  before = e;
  free = refl;
  window = free_window;
}

between : (d : UnitDraws) → AreDrawn d → is_on d ≡ true →
    IsBetween 48 (min_of d) (max_of d) (ramp_of d) (level_of d) (high_of d) (reserve_of d) (unit_of d)
    (running (level_of d) (high_of d) (reserve_of d))
unfolding unit_of running
between d h e =
    let r = has_range d h in
    let rises : level_of d ≤ high_of d = omega (arith, r) in
    record {
      powers_low = λ k i. let p = power_is (level_of d) (high_of d) k i in
          let q = power_between (level_of d) (high_of d) k rises in omega (arith, p, q);
      powers_high = λ k i. let p = power_is (level_of d) (high_of d) k i in
          let q = power_between (level_of d) (high_of d) k rises in omega (arith, p, q);
      reserves = λ k i. get_or-replicate 48 k (reserve_of d) 0 i;
      first = ap (λ (b : Bool). pos (if b then level_of d else 0)) e;
      least_is = refl;
      most_is = refl;
      up_is = refl;
      down_is = refl;
      above_least = omega (arith, r);
      rises = rises;
      room = omega (arith, r);
      in_ramp = omega (arith, r);
    }

stays_off : (d : UnitDraws) → is_on d ≡ false → Stays 48 false (unit_of d) idle
unfolding unit_of idle
stays_off d e = record {
  on = length-replicate 48 false;
  power = length-replicate {A = ℕ} 48 0;
  reserve = length-replicate {A = ℕ} 48 0;
  flags = λ k i. get_or-replicate 48 k false false i;
  before = e;
  free = refl;
  window = free_window;
}

is_idle : (d : UnitDraws) → IsIdle 48 (ramp_of d) (unit_of d) idle
unfolding unit_of idle
is_idle d = record {
  powers = λ k i. get_or-replicate 48 k 0 0 i;
  reserves = λ k i. get_or-replicate 48 k 0 0 i;
  up_is = refl;
  down_is = refl;
}

pub unit_feasible : (d : UnitDraws) → AreDrawn d → IsThermalFeasible (unit_of d) 48 (unit_schedule d)
unfolding unit_schedule
unit_feasible d h =
    elim (is_on d) as (λ (b : Bool). is_on d ≡ b →
    IsThermalFeasible (unit_of d) 48 (if b then running (level_of d) (high_of d) (reserve_of d) else idle)) [
      | true ↦ λ e. on_feasible 48 (min_of d) (max_of d) (ramp_of d) (level_of d) (high_of d) (reserve_of d) (unit_of d)
          _ (stays_on d e) (between d h e)
      | false ↦ λ e. off_feasible 48 (ramp_of d) (unit_of d) idle (stays_off d e) (is_idle d)
    ] refl

-- ---- all units

all_zip_map : {A B C : Type 0} → (R : B → C → Type 0) (view : A → B) (f : ℕ → A) (g : ℕ → C) →
    ((k : ℕ) → R (view (f k)) (g k)) → (ks : List ℕ) → AllZip R (map view (map f ks)) (map g ks)
all_zip_map R view f g h [] = tt
all_zip_map R view f g h (k ∷ ks) = (h k, all_zip_map R view f g h ks)

all_zip_append : {A B : Type 0} → (R : A → B → Type 0) (xs xs' : List A) (ys ys' : List B) → AllZip R xs ys →
    AllZip R xs' ys' → AllZip R (xs ++ xs') (ys ++ ys')
all_zip_append R [] xs' [] ys' h i = i
all_zip_append R [] xs' (y ∷ ys) ys' h i = absurd h
all_zip_append R (x ∷ xs) xs' [] ys' h i = absurd h
all_zip_append R (x ∷ xs) xs' (y ∷ ys) ys' h i = (h.0, all_zip_append R xs xs' ys ys' h.1 i)

all_zip_weaker : {A B : Type 0} → (R S : A → B → Type 0) → ((x : A) (y : B) → R x y → S x y) →
    (xs : List A) (ys : List B) → AllZip R xs ys → AllZip S xs ys
all_zip_weaker R S w [] [] h = tt
all_zip_weaker R S w [] (y ∷ ys) h = absurd h
all_zip_weaker R S w (x ∷ xs) [] h = absurd h
all_zip_weaker R S w (x ∷ xs) (y ∷ ys) h = (w x y h.0, all_zip_weaker R S w xs ys h.1)

-- a unit's schedule is feasible, and what it gives to the system is its power
pub record Gives (u : AnyUnit) (s : Schedule) : Type 0 where
  pub feasible : IsFeasible u 48 s
  pub supply : (k : ℕ) → supply_in u s (suc k) ≡ pos (slice_index s.power k)

abbrev any_thermal : NamedThermalUnit → AnyUnit
any_thermal n = Thermal n.unit

abbrev any_renewable : NamedRenewableUnit → AnyUnit
any_renewable n = Flat n.unit

thermal_gives : (g : Lcg) (k : ℕ) → Gives (any_thermal (named_unit g k)) (unit_plan g k)
unfolding named_unit unit_plan
thermal_gives g k = record {
  feasible = unit_feasible (unit_draws g (unit_place k)) (draws_within g (unit_place k));
  supply = λ i. refl;
}

renewable_gives : (g : Lcg) (index k : ℕ) → Gives (any_renewable (named_renewable g index k)) (renewable_plan g index k)
unfolding named_renewable renewable_plan
renewable_gives g index k = record {
  feasible = full_feasible (most_powers g (renewable_place index k)) (powers_within g (renewable_place index k));
  supply = λ i. refl;
}

all_thermal_give : (g : Lcg) (count : ℕ) → AllZip Gives (map any_thermal (thermal_units g count)) (thermal_plan g count)
unfolding thermal_units thermal_plan
all_thermal_give g count = all_zip_map Gives any_thermal (named_unit g) (unit_plan g) (thermal_gives g)
    (range_with_len 0 count)

all_renewable_give : (g : Lcg) (index count : ℕ) →
    AllZip Gives (map any_renewable (renewable_units g index count)) (renewable_plans g index count)
unfolding renewable_units renewable_plans
all_renewable_give g index count = all_zip_map Gives any_renewable (named_renewable g index) (renewable_plan g index)
    (renewable_gives g index) (range_with_len 0 count)

all_give : (g : Lcg) → AllZip Gives (units (market_from g)) (plan_from g)
unfolding market_from plan_from
all_give g =
    let thermal = map any_thermal (thermal_units g 73) in
    let flat = map any_renewable (renewable_units g (9 * 73) 81) in
    let both = all_zip_append Gives thermal flat (thermal_plan g 73) (renewable_plans g (9 * 73) 81)
    (all_thermal_give g 73) (all_renewable_give g (9 * 73) 81) in
    subst (λ (us : List AnyUnit). AllZip Gives us (thermal_plan g 73 ++ renewable_plans g (9 * 73) 81))
    (sym (append-nil (thermal ++ flat))) both

-- ---- sums

total_is : (f : AnyUnit → Schedule → ℤ) (w : Schedule → ℕ) (us : List AnyUnit) (plan : List Schedule) →
    AllZip (λ u s. f u s ≡ pos (w s)) us plan → total (zip_with f us plan) ≡ pos (sum_by w plan)
total_is f w [] [] h = refl
total_is f w [] (s ∷ plan) h = absurd h
total_is f w (u ∷ us) [] h = absurd h
total_is f w (u ∷ us) (s ∷ plan) h =
    let e = h.0 in
    let rest = total_is f w us plan h.1 in
    let more = sum_by-cons w s plan in
    omega (arith, ints, e, rest, more)

power_total : (us : List AnyUnit) (plan : List Schedule) (k : ℕ) → AllZip Gives us plan →
    total_power us plan k ≡ pos (power_sum plan k)
power_total us plan k h =
    total_is (λ (u : AnyUnit) (s : Schedule). supply_in u s (suc k)) (λ (s : Schedule). slice_index s.power k) us plan
    (all_zip_weaker Gives (λ u s. supply_in u s (suc k) ≡ pos (slice_index s.power k)) (λ u s g. g.supply k) us plan h)

reserve_total : (us : List AnyUnit) (plan : List Schedule) (k : ℕ) → AllZip Gives us plan →
    total_reserve us plan k ≡ pos (reserve_sum plan k)
reserve_total us plan k h =
    total_is (λ (u : AnyUnit) (s : Schedule). reserve_in s (suc k)) (λ (s : Schedule). slice_index s.reserve k) us plan
    (all_zip_weaker Gives (λ u s. reserve_in s (suc k) ≡ pos (slice_index s.reserve k)) (λ u s g. refl) us plan h)

demand_at : (plan : List Schedule) (k : ℕ) → k < 48 → int_at (demand_of plan) k ≡ pos (power_sum plan k)
unfolding demand_of
demand_at plan k low = get_or-map-range_with_len (λ (i : ℕ). pos (power_sum plan i)) 0 48 k k (pos 0) low (omega arith)

requirement_at : (plan : List Schedule) (k : ℕ) → k < 48 →
    int_at (requirement_of plan) k ≡ pos (reserve_sum plan k * 9 / 10)
unfolding requirement_of
requirement_at plan k low = get_or-map-range_with_len (λ (i : ℕ). pos (reserve_sum plan i * 9 / 10)) 0 48 k k (pos 0)
    low (omega arith)

feasible_by : (us : List AnyUnit) (plan : List Schedule) → AllZip Gives us plan → (k : ℕ) → k < 48 →
    (total_power us plan k ≡ int_at (demand_of plan) k) × (int_at (requirement_of plan) k ≤ℤ total_reserve us plan k)
feasible_by us plan h k low =
    let required = requirement_at plan k low in
    let given = reserve_total us plan k h in
    (power_total us plan k h ∙ sym (demand_at plan k low), omega (arith, ints, required, given))

market_plan_feasible : (m : Market) (plan : List Schedule) → m.periods ≡ 48 → m.demand ≡ demand_of plan →
    m.reserves ≡ requirement_of plan → AllZip Gives (units m) plan → IsFeasiblePlan m plan
market_plan_feasible m plan count demand reserves h = record {
  feasible = all_zip_weaker Gives (λ u s. IsFeasible u m.periods s)
      (λ u s g. subst (λ (n : ℕ). IsFeasible u n s) (sym count) g.feasible) (units m) plan h;
  balance = λ k low. (feasible_by (units m) plan h k (subst (λ (n : ℕ). k < n) count low)).0 ∙
      sym (ap (λ (xs : List ℤ). int_at xs k) demand);
  reserve = λ k low. subst (λ (xs : List ℤ). int_at xs k ≤ℤ total_reserve (units m) plan k) (sym reserves)
      (feasible_by (units m) plan h k (subst (λ (n : ℕ). k < n) count low)).1;
}

pub made_feasible : (g : Lcg) → IsFeasiblePlan (market_from g) (plan_from g)
unfolding market_from
made_feasible g = market_plan_feasible (market_from g) (plan_from g) refl refl refl (all_give g)

-- ---- limits

pub plan_small : (g : Lcg) → IsSmall 100000000 (plan_from g)
unfolding plan_from
plan_small g = grown_small (thermal_plan g 73) g (9 * 73) 81 (thermal_small g 73 (omega arith)) (omega arith)

demand_limited : (plan : List Schedule) → IsSmall 100000000 plan → All IsPower (demand_of plan)
unfolding demand_of
demand_limited plan h =
    All-map IsPower (λ (k : ℕ). pos (power_sum plan k)) (range_with_len 0 48)
    (λ k d low. let p = h.powers (get_or (range_with_len 0 48) k d) in
    record { at_least = omega (arith, ints); at_most = omega (arith, ints, p) })

requirement_limited : (plan : List Schedule) → IsSmall 100000000 plan → All IsPower (requirement_of plan)
unfolding requirement_of
requirement_limited plan h =
    All-map IsPower (λ (k : ℕ). pos (reserve_sum plan k * 9 / 10)) (range_with_len 0 48)
    (λ k d low. let p = h.reserves (get_or (range_with_len 0 48) k d) in
    record { at_least = omega (arith, ints); at_most = omega (arith, ints, p) })

length-demand : (plan : List Schedule) → length (demand_of plan) ≡ 48
unfolding demand_of
length-demand plan = length-map-range_with_len (λ (k : ℕ). pos (power_sum plan k)) 0 48

length-requirement : (plan : List Schedule) → length (requirement_of plan) ≡ 48
unfolding requirement_of
length-requirement plan = length-map-range_with_len (λ (k : ℕ). pos (reserve_sum plan k * 9 / 10)) 0 48

length-window : (d : UnitDraws) → length (unit_of d).window ≡ 48
unfolding unit_of
length-window d = length-replicate 48 Free

length-least : (powers : List ℕ) → length (renewable_of powers).least ≡ 48
unfolding renewable_of
length-least powers = length-replicate 48 (pos 0)

thermal_limited : (g : Lcg) (count : ℕ) →
    All (λ (n : NamedThermalUnit). IsThermalUnit n.unit × (length n.unit.window ≡ 48)) (thermal_units g count)
unfolding thermal_units named_unit
thermal_limited g count =
    All-map (λ (n : NamedThermalUnit). IsThermalUnit n.unit × (length n.unit.window ≡ 48)) (named_unit g)
    (range_with_len 0 count)
    (λ k d low. let p : ℕ = unit_place (get_or (range_with_len 0 count) k d) in
    (unit_limited (unit_draws g p) (draws_within g p), length-window (unit_draws g p)))

renewables_limited : (g : Lcg) (index count : ℕ) →
    All (λ (n : NamedRenewableUnit). IsRenewableUnit n.unit × (length n.unit.least ≡ 48))
    (renewable_units g index count)
unfolding renewable_units named_renewable
renewables_limited g index count =
    All-map (λ (n : NamedRenewableUnit). IsRenewableUnit n.unit × (length n.unit.least ≡ 48)) (named_renewable g index)
    (range_with_len 0 count)
    (λ k d low.
    let p : ℕ = renewable_place index (get_or (range_with_len 0 count) k d) in
    (renewable_limited (most_powers g p) (powers_within g p), length-least (most_powers g p)))

length-thermal_units : (g : Lcg) (count : ℕ) → length (thermal_units g count) ≡ count
unfolding thermal_units
length-thermal_units g count = length-map-range_with_len (named_unit g) 0 count

length-renewable_units : (g : Lcg) (index count : ℕ) → length (renewable_units g index count) ≡ count
unfolding renewable_units
length-renewable_units g index count = length-map-range_with_len (named_renewable g index) 0 count

pub made_limited : (g : Lcg) → IsMarket (market_from g)
unfolding market_from
made_limited g =
    let thermal = length-thermal_units g 73 in
    let flat = length-renewable_units g (9 * 73) 81 in
    record {
      horizon = record { at_least = omega arith; at_most = omega arith };
      demand_length = length-demand (plan_from g);
      demand = demand_limited (plan_from g) (plan_small g);
      reserves_length = length-requirement (plan_from g);
      reserves = requirement_limited (plan_from g) (plan_small g);
      thermal_count = omega (arith, thermal);
      flat_count = omega (arith, flat);
      bid_count = omega arith;
      some_unit = omega (arith, thermal);
      thermal = thermal_limited g 73;
      flat = renewables_limited g (9 * 73) 81;
      bids = All-nil (λ (n : NamedBidUnit). IsBidUnit n.unit × (length n.unit.blocks ≡ 48));
    }

pub feasible_for : (g : Lcg) (m : Market) (plan : List Schedule) → m ≡ market_from g → plan ≡ plan_from g →
    IsFeasiblePlan m plan
feasible_for g m plan e f =
    subst (λ (x : Market). IsFeasiblePlan x plan) (sym e)
    (subst (λ (p : List Schedule). IsFeasiblePlan (market_from g) p) (sym f) (made_feasible g))
