-- What follows from draws that are within their ranges.
use Rattle.case_make.proofs.Common.{◌≡◌, ℕ, zero, suc, ◌+◌, ◌-◌, ◌*◌, ◌≤◌, refl, arith, div-le_self, mul-le-mul_left}
use Rattle.case_make.proofs.Common.{min-le_left, min-le_right, mul-le, UnitDraws, Lcg, unit_draws, max_of, min_of}
use Rattle.case_make.proofs.Common.{ramp_of, level_of, step_of, high_of, reserve_of, at_of, cost_of, AreDrawn, word_at}
use Rattle.case_make.proofs.WordLaws.{drawn_within}

-- a part of a whole in hundredths
pub part_of : (whole percent most : ℕ) → percent ≤ most → whole * percent ≤ whole * most
part_of whole percent most h = mul-le-mul_left whole h

pub max_range : (d : UnitDraws) → AreDrawn d → (20000 ≤ max_of d) × (max_of d ≤ 400000)
unfolding max_of
max_range d h = (omega arith, omega arith)

pub min_range : (d : UnitDraws) → AreDrawn d → 2 * min_of d ≤ max_of d
unfolding min_of
min_range d h = let p = part_of (max_of d) d.least_percent 50 h.least_percent.at_most in omega (arith, p)

pub ramp_range : (d : UnitDraws) → ramp_of d ≤ max_of d
unfolding ramp_of
ramp_range d = div-le_self (max_of d) d.ramp_divisor

pub level_range : (d : UnitDraws) → AreDrawn d → (min_of d ≤ level_of d) × (level_of d ≤ max_of d)
unfolding level_of
level_range d h =
    let p = part_of (max_of d - min_of d) d.level_percent 100 h.level_percent.at_most in
    let m = min_range d h in
    (omega arith, omega (arith, p, m))

pub step_range : (d : UnitDraws) → (step_of d ≤ max_of d - level_of d) × (step_of d ≤ ramp_of d)
unfolding step_of
step_range d =
    let a = min-le_left (max_of d - level_of d) (ramp_of d) in
    let b = min-le_right (max_of d - level_of d) (ramp_of d) in
    (omega (arith, a), omega (arith, b))

pub high_is : (d : UnitDraws) → high_of d ≡ level_of d + step_of d
unfolding high_of
high_is d = refl

pub reserve_range : (d : UnitDraws) → (reserve_of d ≤ max_of d - high_of d) × (reserve_of d ≤ ramp_of d - step_of d)
unfolding reserve_of
reserve_range d = (
  min-le_left (max_of d - high_of d) (ramp_of d - step_of d),
  min-le_right (max_of d - high_of d) (ramp_of d - step_of d),
)

-- all that a schedule needs
pub record HasRange (d : UnitDraws) : Type 0 where
  pub most : max_of d ≤ 400000
  pub half : 2 * min_of d ≤ max_of d
  pub ramp : ramp_of d ≤ max_of d
  pub above_least : min_of d ≤ level_of d
  pub below_most : level_of d ≤ max_of d
  pub rise : high_of d ≡ level_of d + step_of d
  pub rise_in_ramp : step_of d ≤ ramp_of d
  pub top : high_of d ≤ max_of d
  pub reserve_in_range : high_of d + reserve_of d ≤ max_of d
  pub reserve_in_ramp : step_of d + reserve_of d ≤ ramp_of d

pub has_range : (d : UnitDraws) → AreDrawn d → HasRange d
has_range d h =
    let level = level_range d h in
    let step = step_range d in
    let high = high_is d in
    let reserve = reserve_range d in
    record {
      most = (max_range d h).1;
      half = min_range d h;
      ramp = ramp_range d;
      above_least = level.0;
      below_most = level.1;
      rise = high;
      rise_in_ramp = step.1;
      top = omega (arith, level, step, high);
      reserve_in_range = omega (arith, level, step, high, reserve);
      reserve_in_ramp = omega (arith, step, reserve);
    }

-- ---- points

pub at_first : (d : UnitDraws) → at_of d 0 ≡ min_of d
unfolding at_of
at_first d = omega arith

pub at_last : (d : UnitDraws) → AreDrawn d → at_of d 3 ≡ max_of d
unfolding at_of
at_last d h = let m = min_range d h in omega (arith, m)

pub at_rises : (d : UnitDraws) (i j : ℕ) → j ≡ i + 1 → at_of d i ≤ at_of d j
unfolding at_of
at_rises d i j h =
    let more = mul-le-mul_left (max_of d - min_of d) (let le : i ≤ j = omega arith in le) in
    omega (arith, more)

pub at_most : (d : UnitDraws) (i : ℕ) → AreDrawn d → i ≤ 3 → at_of d i ≤ max_of d
unfolding at_of
at_most d i h low =
    let p = part_of (max_of d - min_of d) i 3 low in
    let m = min_range d h in
    omega (arith, p, m)

-- the price of a width, in money for a kilowatt and period
pub price_range : (d : UnitDraws) (i : ℕ) → AreDrawn d → i ≤ 2 → 100 * d.energy_cost * (10 + suc i) ≤ 78000
price_range d i h low = mul-le (100 * d.energy_cost) (10 + suc i) 6000 13 (omega arith) (omega arith)

pub first_cost_range : (d : UnitDraws) → AreDrawn d → cost_of d 0 ≤ 12000000000
unfolding cost_of
first_cost_range d h =
    let m = min_range d h in
    let top = max_range d h in
    mul-le (1000 * d.energy_cost) (min_of d) 60000 200000 (omega arith) (omega (arith, m, top))

pub cost_range : (d : UnitDraws) (i : ℕ) → AreDrawn d → i ≤ 3 → cost_of d i ≤ 12000000000 + i * 31200000000
unfolding cost_of
cost_range d zero h low = first_cost_range d h
cost_range d (suc i) h low =
    let before = cost_range d i h (omega arith) in
    let top = max_range d h in
    let last = at_most d (suc i) h low in
    let more = mul-le (100 * d.energy_cost * (10 + suc i)) (at_of d (suc i) - at_of d i) 78000 400000
    (price_range d i h (omega arith)) (omega (arith, top, last)) in
    omega (arith, before, more)

-- ---- the draws of a unit are within their ranges

pub draws_within : (g : Lcg) (index : ℕ) → AreDrawn (unit_draws g index)
unfolding unit_draws
draws_within g index = record {
  megawatts = drawn_within 20 400 (word_at g index) (omega arith);
  least_percent = drawn_within 20 50 (word_at g (index + 1)) (omega arith);
  ramp_divisor = drawn_within 2 6 (word_at g (index + 2)) (omega arith);
  min_up = drawn_within 1 8 (word_at g (index + 3)) (omega arith);
  min_down = drawn_within 1 8 (word_at g (index + 4)) (omega arith);
  energy_cost = drawn_within 15 60 (word_at g (index + 6)) (omega arith);
  start_hundreds = drawn_within 1 50 (word_at g (index + 7)) (omega arith);
  level_percent = drawn_within 0 100 (word_at g (index + 8)) (omega arith);
}
