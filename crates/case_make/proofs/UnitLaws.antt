-- A generated thermal unit is within the limits.
use Rattle.case_make.proofs.Common.{◌≡◌, ℕ, zero, suc, ◌+◌, ◌*◌, ◌≤◌, ℤ, pos, ◌≤ℤ◌, Bool, true, false, if◌then◌else◌}
use Rattle.case_make.proofs.Common.{List, map, replicate, length, slice_index_or, refl, ap, sym, ◌∙◌, subst, arith}
use Rattle.case_make.proofs.Common.{to_z, of_z, ints, to_z-of_z, length-replicate, All, range_with_len, Point, Mark}
use Rattle.case_make.proofs.Common.{Free, ThermalUnit, IsFrom, IsLag, IsPoint, Spans, IsThermalUnit, AreLagsOrdered}
use Rattle.case_make.proofs.Common.{ArePointsOrdered, UnitDraws, max_of, min_of, ramp_of, is_on, level_of}
use Rattle.case_make.proofs.Common.{start_cost_of, lags_of, at_of, point_of, unit_of, AreDrawn}
use Rattle.std.specs.Int.{w64}
use Rattle.uc_model.specs.declared.units.Lag.{Lag}
use Rattle.case_make.proofs.Bounds.{has_range, at_first, at_last, at_rises, at_most, cost_range}

-- ---- numbers that are kept

pub kept : (z : ℤ) (m n : ℕ) → z ≡ pos m → m ≡ n → n ≤ 1000000000 → to_z w64 (of_z w64 z) ≡ pos n
kept z m n is same low =
    let e : z ≡ pos n = is ∙ ap pos same in
    ap (λ (x : ℤ). to_z w64 (of_z w64 x)) e ∙ to_z-of_z w64 (pos n) (omega (arith, ints, low))

pub natural : (n high : ℕ) → n ≤ high → IsFrom (pos 0) (pos high) (pos n)
natural n high h = record { at_least = omega (arith, ints); at_most = omega (arith, ints, h) }

pub either_kept : (b : Bool) (m n high : ℕ) → m ≤ high → n ≤ high → (if b then m else n) ≤ high
either_kept true m n high h i = h
either_kept false m n high h i = i

-- ---- lags

abbrev lag : ℕ → ℕ → Lag
lag l c = record { lag = l; cost = pos c }

is_lag : (l c : ℕ) → l ≤ 1000000 → c ≤ 10000000000000 → IsLag (lag l c)
is_lag l c h i = record { lag = h; cost = natural c 10000000000000 i }

lags_limited : (d : UnitDraws) → AreDrawn d → All IsLag (lags_of d)
unfolding lags_of
lags_limited d h zero x low = let down = h.min_down in let cost = h.start_hundreds in
    is_lag d.min_down (start_cost_of d) (omega (arith, down)) (omega (arith, cost))
lags_limited d h (suc zero) x low =
    let down = h.min_down in
    let cost = h.start_hundreds in
    is_lag (d.min_down + 4) (2 * start_cost_of d) (omega (arith, down)) (omega (arith, cost))
lags_limited d h (suc (suc zero)) x low =
    let down = h.min_down in
    let cost = h.start_hundreds in
    is_lag (d.min_down + 12) (3 * start_cost_of d) (omega (arith, down)) (omega (arith, cost))
lags_limited d h (suc (suc (suc k))) x low = absurd (omega (arith, low))

lags_rise : (d : UnitDraws) → AreLagsOrdered (lags_of d)
unfolding lags_of
lags_rise d zero x h = omega arith
lags_rise d (suc zero) x h = omega arith
lags_rise d (suc (suc k)) x h = absurd (omega (arith, h))

lag_count : (d : UnitDraws) → length (lags_of d) ≤ 32
unfolding lags_of
lag_count d = omega arith

-- ---- points

abbrev points_of : UnitDraws → List Point
points_of d = map (point_of d) (range_with_len 0 4)

point_limited : (d : UnitDraws) (i : ℕ) → AreDrawn d → i ≤ 3 → IsPoint (point_of d i)
point_limited d i h low =
    let top = (has_range d h).most in
    let at = at_most d i h low in
    let cost = cost_range d i h low in
    record {
      at = natural (at_of d i) 1000000000 (omega (arith, top, at));
      cost = record { at_least = omega (arith, ints); at_most = omega (arith, ints, cost, low) };
    }

points_limited : (d : UnitDraws) → AreDrawn d → All IsPoint (points_of d)
points_limited d h zero x low = point_limited d 0 h (omega arith)
points_limited d h (suc zero) x low = point_limited d 1 h (omega arith)
points_limited d h (suc (suc zero)) x low = point_limited d 2 h (omega arith)
points_limited d h (suc (suc (suc zero))) x low = point_limited d 3 h (omega arith)
points_limited d h (suc (suc (suc (suc k)))) x low = absurd (omega (arith, low))

points_rise : (d : UnitDraws) → ArePointsOrdered (points_of d)
points_rise d zero x h = let r = at_rises d 0 1 refl in omega (arith, ints, r)
points_rise d (suc zero) x h = let r = at_rises d 1 2 refl in omega (arith, ints, r)
points_rise d (suc (suc zero)) x h = let r = at_rises d 2 3 refl in omega (arith, ints, r)
points_rise d (suc (suc (suc k))) x h = absurd (omega (arith, h))

points_span : (d : UnitDraws) → AreDrawn d → Spans (points_of d) (pos (min_of d)) (pos (max_of d))
points_span d h = record {
  first = λ x. let e = at_first d in omega (arith, ints, e);
  last = λ n x e. let m : n ≡ 3 = omega (arith, e) in
      subst (λ (k : ℕ). pos (max_of d) ≤ℤ (slice_index_or (points_of d) k x).at) (sym m)
      (let f = at_last d h in omega (arith, ints, f));
}

-- ---- the unit

pub first_power_low : (d : UnitDraws) → AreDrawn d → (if is_on d then level_of d else 0) ≤ 1000000000
first_power_low d h = let r = has_range d h in
    either_kept (is_on d) (level_of d) 0 1000000000 (omega (arith, r)) (omega arith)

pub unit_limited : (d : UnitDraws) → AreDrawn d → IsThermalUnit (unit_of d)
unfolding unit_of
unit_limited d h =
    let r = has_range d h in
    let up = h.min_up in
    let down = h.min_down in
    record {
      min_power = natural (min_of d) 1000000000 (omega (arith, r));
      max_power = natural (max_of d) 10000000 (omega (arith, r));
      range = omega (arith, ints, r);
      ramp_up = natural (ramp_of d) 1000000000 (omega (arith, r));
      ramp_down = natural (ramp_of d) 1000000000 (omega (arith, r));
      start_limit = natural (min_of d + ramp_of d) 1000000000 (omega (arith, r));
      stop_limit = natural (min_of d + ramp_of d) 1000000000 (omega (arith, r));
      min_up = omega (arith, up);
      min_up_is_one_or_more = up.at_least;
      min_down = omega (arith, down);
      min_down_is_one_or_more = down.at_least;
      power0 = natural (if is_on d then level_of d else 0) 10000000
          (either_kept (is_on d) (level_of d) 0 10000000 (omega (arith, r)) (omega arith));
      up0 = either_kept (is_on d) 24 0 1000000 (omega arith) (omega arith);
      down0 = either_kept (is_on d) 0 24 1000000 (omega arith) (omega arith);
      lag_count = lag_count d;
      lags = lags_limited d h;
      lags_ordered = lags_rise d;
      point_count = omega arith;
      some_point = omega arith;
      points = points_limited d h;
      points_ordered = points_rise d;
      span = points_span d h;
      horizon = record {
        at_least = omega (arith, length-replicate 48 Free);
        at_most =
            omega (arith, length-replicate 48 Free);
      };
    }

-- the unit with these numbers
pub unit_is : (d : UnitDraws) (least most up_ramp down_ramp start stop before : ℤ) (on : Bool) (up down : ℕ)
    (lags : List Lag) (points : List Point) (window : List Mark) →
    least ≡ pos (min_of d) → most ≡ pos (max_of d) → up_ramp ≡ pos (ramp_of d) → down_ramp ≡ pos (ramp_of d) →
    start ≡ pos (min_of d + ramp_of d) → stop ≡ pos (min_of d + ramp_of d) →
    before ≡ pos (if is_on d then level_of d else 0) →
    on ≡ is_on d → up ≡ (if is_on d then 24 else 0) → down ≡ (if is_on d then 0 else 24) →
    lags ≡ lags_of d → points ≡ points_of d → window ≡ replicate 48 Free →
    (let u : ThermalUnit = record {
      must_run = false;
      min_power = least;
      max_power = most;
      ramp_up = up_ramp;
      ramp_down = down_ramp;
      start_limit = start;
      stop_limit = stop;
      min_up = d.min_up;
      min_down = d.min_down;
      power0 = before;
      on0 = on;
      up0 = up;
      down0 = down;
      lags = lags;
      points = points;
      window = window;
    } in u ≡ unit_of d)
unfolding unit_of
unit_is d least most up_ramp down_ramp start stop before on up down lags points window e1 e2 e3 e4 e5 e6 e7 e8 e9 e10
    e11 e12 e13 = cc
