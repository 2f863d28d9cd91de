-- What was read for a unit is within the limits of its type.
use Rattle.uc_case.proofs.Common.{◌≡◌, ℕ, zero, suc, ◌+◌, ◌<◌, ◌≤◌, ◌==◌, ◌&&◌, Bool, true, false, List, [], ◌∷◌}
use Rattle.uc_case.proofs.Common.{length, get_or, nat_tests, IsMarket, AreNeeds, AreAllUnits, AreUnitLists, UnitLists}
use Rattle.uc_case.proofs.Common.{joined_unit, HorizonNeeds, AllUnits, no_unit, joined_case, refl, sym, ◌∙◌}
use Rattle.uc_case.proofs.Common.{if◌then◌else◌, arith, w64, to_z, of_z, ℤ, pos, ◌≤ℤ◌, int_lt, All, ints, to_z-of_z}
use Rattle.uc_case.proofs.Common.{IsPower, IsOutput, IsThermalUnit, IsRenewableUnit, IsRange, AreRamps, IsPast}
use Rattle.uc_case.proofs.Common.{first_crossed}
use Rattle.uc_model.specs.declared.limits.TheConstants.{MOST_PERIODS}
use Rattle.uc_case.specs.declared.parts.Output.{Output}
use Rattle.uc_case.specs.declared.parts.Ramps.{Ramps}
use Rattle.uc_case.specs.declared.parts.Past.{Past}

-- a power and an output as they are stored
pub power_stored : (n : ℤ) → IsPower n → to_z w64 (of_z w64 n) ≡ n
power_stored n is = to_z-of_z w64 n (omega (arith, ints, is.at_least, is.at_most))

pub output_stored : (n : ℤ) → IsOutput n → to_z w64 (of_z w64 n) ≡ n
output_stored n is = to_z-of_z w64 n (omega (arith, ints, is.at_least, is.at_most))

pub thermal_fits : (o : Output) (r : Ramps) (p : Past) (l : UnitLists) (periods : ℕ) → IsRange o → AreRamps r →
    IsPast p → AreUnitLists o periods l → 1 ≤ periods → periods ≤ MOST_PERIODS → IsThermalUnit (joined_unit o r p l)
thermal_fits o r p l periods range ramps past lists some horizon = record {
  min_power = range.least;
  max_power = range.most;
  range = range.range;
  ramp_up = ramps.up;
  ramp_down = ramps.down;
  start_limit = ramps.start;
  stop_limit = ramps.stop;
  min_up = past.min_up;
  min_up_is_one_or_more = past.some_up;
  min_down = past.min_down;
  min_down_is_one_or_more = past.some_down;
  power0 = past.power;
  up0 = past.up;
  down0 = past.down;
  lag_count = lists.lag_count;
  lags = lists.lags.lags;
  lags_ordered = lists.lags.ordered;
  point_count = lists.points.count;
  some_point = lists.points.some;
  points = lists.points.points.points;
  points_ordered = lists.points.points.ordered;
  span = lists.points.span;
  horizon = record { at_least = omega (arith, lists.window, some); at_most = omega (arith, lists.window, horizon) };
}

some_unit : (a b : ℕ) → (a == 0 && b == 0) ≡ false → 1 ≤ a + b
some_unit a b e = grind (arith, nat_tests)

pub market_fits : (periods : ℕ) (n : HorizonNeeds) (us : AllUnits) → 1 ≤ periods → periods ≤ MOST_PERIODS →
    AreNeeds periods n → AreAllUnits periods us → no_unit us ≡ false → IsMarket (joined_case periods n us)
market_fits periods n us some horizon needs units e = record {
  horizon = record { at_least = some; at_most = horizon };
  demand_length = needs.demand_count;
  demand = needs.demand;
  reserves_length = needs.reserves_count;
  reserves = needs.reserves;
  thermal_count = units.thermal_count;
  flat_count = units.flat_count;
  bid_count = units.bid_count;
  some_unit = some_unit (length us.thermal) (length us.flat) e;
  thermal = units.thermal;
  flat = units.flat;
  bids = units.bids;
}

first_fails : (b : Bool) (j r : ℕ) → 0 < j → (if b then j else r) ≤ 0 → (b ≡ false) × (r ≤ 0)
first_fails true j r some none = absurd (omega (arith, some, none))
first_fails false j r some none = (refl, none)

-- where no least is found above its greatest, none is
uncrossed : (j : ℕ) (ls ms : List ℤ) → 0 < j → first_crossed j ls ms ≤ 0 → length ls ≡ length ms → (k : ℕ) →
    k < length ls → get_or ls k (pos 0) ≤ℤ get_or ms k (pos 0)
uncrossed j [] ms some none same k lt = absurd (omega (arith, lt))
uncrossed j (l ∷ ls) [] some none same k lt = absurd (omega (arith, same))
uncrossed j (l ∷ ls) (m ∷ ms) some none same zero lt =
    let e : int_lt m l ≡ false = (first_fails (int_lt m l) j (first_crossed (suc j) ls ms) some none).0 in
    omega (arith, ints, e)
uncrossed j (l ∷ ls) (m ∷ ms) some none same (suc k) lt =
    uncrossed (suc j) ls ms (omega (arith, some)) (first_fails (int_lt m l) j (first_crossed (suc j) ls ms) some none).1
    (omega (arith, same)) k (omega (arith, lt))

pub renewable_fits : (least most : List ℤ) (periods crossed : ℕ) → length least ≡ periods → length most ≡ periods →
    1 ≤ periods → periods ≤ MOST_PERIODS → All (λ n. IsPower n) least → All (λ n. IsPower n) most
    → crossed ≡ first_crossed 1 least most → crossed ≤ 0 → IsRenewableUnit (record { least = least; most = most })
renewable_fits least most periods crossed count count_most some horizon least_fits most_fits crossed_is none =
    let same : length least ≡ length most = count ∙ sym count_most in
    let no : first_crossed 1 least most ≤ 0 = omega (arith, crossed_is, none) in
    record {
      lengths = same;
      horizon = record { at_least = omega (arith, count, some); at_most = omega (arith, count, horizon) };
      least = least_fits;
      most = most_fits;
      range = uncrossed 1 least most (omega arith) no same;
    }
