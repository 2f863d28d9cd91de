-- How large the powers and reserves of a feasible schedule can be.
use Rattle.right_report.proofs.Common.{◌≡◌, ℕ, zero, suc, ◌+◌, ◌<◌, ◌≤◌, inl, inr, ℤ, pos, negsuc, ◌+ℤ◌, ◌-ℤ◌, ◌≤ℤ◌}
use Rattle.right_report.proofs.Common.{Bool, true, false, if◌then◌else◌, unsigned_abs, refl, subst, arith, cases_lt}
use Rattle.right_report.proofs.Common.{ints, clamps, IsTrue, IsFalse, slice_index, slice_index_or, ThermalUnit, AnyUnit}
use Rattle.right_report.proofs.Common.{Thermal, Flat, Bid, Schedule, cap_of, width_of, blocks_at, IsPeriod}
use Rattle.right_report.proofs.Common.{IsThermalFeasible, IsFeasible, int_at}

below_magnitude : (x : ℕ) (z : ℤ) → pos x ≤ℤ z → x ≤ unsigned_abs z
below_magnitude x (pos m) h = omega (arith, ints, h)
below_magnitude x (negsuc m) h = absurd (omega (arith, ints, h))

-- at least each of the first numbers
sum_of : ℕ → (ℕ → ℕ) → ℕ
sum_of zero f = 0
sum_of (suc n) f = sum_of n f + f n

under_sum : (n : ℕ) (f : ℕ → ℕ) (k : ℕ) → k < n → f k ≤ sum_of n f
unfolding sum_of
under_sum zero f k low = absurd (omega (arith, low))
under_sum (suc n) f k low = elim (cases_lt k n) [
  | inl less ↦ let h = under_sum n f k less in omega (arith, h)
  | inr late ↦ let same : n ≡ k = omega (arith, low, late) in
      subst (λ (j : ℕ). f j ≤ sum_of n f + f n) same (omega arith)
]

-- no power and no reserve of a feasible schedule is above this one
pub limit_of : AnyUnit → ℕ → ℕ
limit_of (Thermal g) n = unsigned_abs g.max_power
limit_of (Flat r) n = sum_of n (λ k. unsigned_abs (int_at r.most k))
limit_of (Bid b) n = sum_of n (λ k. unsigned_abs (width_of (blocks_at b k)))

abbrev pub AreUpTo : ℕ → Schedule → ℕ → Type 0
AreUpTo most s k = (slice_index s.power k ≤ most) × (slice_index s.reserve k ≤ most)

-- the rules of one period of a thermal unit, where it is on or off
thermal_at : (g : ThermalUnit) (on : Bool) (p r : ℕ)
    → (IsTrue on → ((if on then pos p -ℤ g.min_power else pos 0) +ℤ pos r) ≤ℤ cap_of g false false)
    → (IsFalse on → (p ≡ 0) × (r ≡ 0))
    → (p ≤ unsigned_abs g.max_power) × (r ≤ unsigned_abs g.max_power)
thermal_at g true p r greatest off =
    let h : ((pos p -ℤ g.min_power) +ℤ pos r) ≤ℤ cap_of g false false = greatest refl in (
      below_magnitude p g.max_power (omega (arith, ints, clamps, h)),
      below_magnitude r g.max_power (omega (arith, ints, clamps, h)),
    )
thermal_at g false p r greatest off =
    let h = off refl in
    (omega (arith, h), omega (arith, h))

thermal_limits : (g : ThermalUnit) (n : ℕ) (s : Schedule) → IsThermalFeasible g n s → (k : ℕ) → k < n →
    AreUpTo (unsigned_abs g.max_power) s k
thermal_limits g n s h k low =
    let long = h.schedule.on in
    let period : IsPeriod s (suc k) = record { from_one = omega arith; to_last = omega (arith, low, long) } in
    thermal_at g (slice_index_or s.on k false) (slice_index s.power k) (slice_index s.reserve k)
    (h.dispatch.greatest (suc k) period) (h.schedule.off k low)

-- one that is always on within a greatest power of each period
always_on_limits : (most : ℕ → ℤ) (n : ℕ) (s : Schedule) → ((k : ℕ) → k < n → slice_index s.reserve k ≡ 0) →
    ((k : ℕ) → k < n → pos (slice_index s.power k) ≤ℤ most k)
    → (k : ℕ) → k < n → AreUpTo (sum_of n (λ j. unsigned_abs (most j))) s k
always_on_limits most n s reserve power k low =
    let here = below_magnitude (slice_index s.power k) (most k) (power k low) in
    let under = under_sum n (λ j. unsigned_abs (most j)) k low in
    let none = reserve k low in
    (omega (arith, here, under), omega (arith, none))

pub limits : (u : AnyUnit) (n : ℕ) (s : Schedule) → IsFeasible u n s → (k : ℕ) → k < n → AreUpTo (limit_of u n) s k
unfolding limit_of
limits (Thermal g) n s h = thermal_limits g n s h
limits (Flat r) n s h = always_on_limits (int_at r.most) n s h.reserve h.most
limits (Bid b) n s h = always_on_limits (λ k. width_of (blocks_at b k)) n s h.reserve h.most
