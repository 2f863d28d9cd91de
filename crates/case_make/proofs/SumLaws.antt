-- The sums of generated schedules, and how large they can be.
use Rattle.case_make.proofs.Common.{◌≡◌, ℕ, ◌*◌, ◌<◌, ◌≤◌, ℤ, pos, Bool, true, false, if◌then◌else◌, List, [], ◌++◌}
use Rattle.case_make.proofs.Common.{map, replicate, length, get_or, slice_index, ap, sym, ◌∙◌, inl, inr, arith}
use Rattle.case_make.proofs.Common.{length-replicate, get_or-replicate, get_or_past, All-map, length-map-range_with_len}
use Rattle.case_make.proofs.Common.{get_or-map-range_with_len, sum_by-append, sum_by-le, All, range_with_len, Lcg}
use Rattle.case_make.proofs.Common.{Schedule, int_at, UnitDraws, unit_draws, is_on, level_of, high_of, reserve_of}
use Rattle.case_make.proofs.Common.{is_high, power_at, running, idle, unit_schedule, most_powers, full, AreSums}
use Rattle.case_make.proofs.Common.{IsSmall, IsSteady, unit_place, unit_plan, thermal_plan, renewable_place}
use Rattle.case_make.proofs.Common.{renewable_plan, renewable_plans, power_sum, reserve_sum, AreDrawn, ArePowers}
use Rattle.case_make.proofs.Common.{◌∷◌, ◌+◌, ◌+ℤ◌, zero, suc, refl, subst, ints, IsPower}
use Rattle.std.proofs.lemmas.Bool.{cases_lt}
use Rattle.std.proofs.lemmas.List.Sums.{sum_by_push}
use Rattle.case_make.proofs.Bounds.{has_range, draws_within}
use Rattle.case_make.proofs.RenewableLaws.{powers_within}

-- no schedule has no power
pub no_sums : (plan : List Schedule) (powers : List ℤ) → plan ≡ [] → powers ≡ replicate 48 (pos 0) →
    AreSums plan powers 0
no_sums plan powers none is = record {
  count = ap length is ∙ length-replicate 48 (pos 0);
  powers_are = λ k low.
      ap (λ (xs : List ℤ). int_at xs k) is ∙ get_or-replicate 48 k (pos 0) (pos 0) low
      ∙ sym (ap (λ (p : List Schedule). pos (power_sum p k)) none);
  reserve_is = λ k low. sym (ap (λ (p : List Schedule). reserve_sum p k) none);
}

either : {A : Type 0} (xs : List A) (k : ℕ) (d e : A) → k < length xs → get_or xs k d ≡ get_or xs k e
either [] k d e lt = absurd (omega (arith, lt))
either (x ∷ xs) zero d e lt = refl
either (x ∷ xs) (suc k) d e lt = either xs k d e (omega (arith, lt))

-- each sum of small schedules is a power
pub sums_powers : (plan : List Schedule) (powers : List ℤ) (reserve : ℕ) → AreSums plan powers reserve →
    IsSmall 100000000 plan → All IsPower powers
sums_powers plan powers reserve h small = λ k d lt.
    let count = h.count in
    let low : k < 48 = omega (arith, lt, count) in
    let most = small.powers k in
    subst IsPower (sym (either powers k d (pos 0) lt ∙ h.powers_are k low))
    (record { at_least = omega (arith, ints); at_most = omega (arith, ints, most) })

-- the sums with one schedule more
pub sums_more : (plan : List Schedule) (s : Schedule) (powers new : List ℤ) (before after : ℕ) →
    AreSums plan powers before → IsSteady s → length new ≡ length powers →
    ((k : ℕ) → k < length powers → int_at new k ≡ int_at powers k +ℤ pos (slice_index s.power k)) →
    after ≡ before + slice_index s.reserve 0 → AreSums (plan ++ s ∷ []) new after
sums_more plan s powers new before after h steady same added is =
    let count = h.count in
    record {
      count = same ∙ count;
      powers_are = λ k low.
          let e = added k (omega (arith, low, count)) in
          let f = h.powers_are k low in
          let g = sum_by_push (λ (t : Schedule). slice_index t.power k) plan s in
          omega (arith, ints, e, f, g);
      reserve_is = λ k low.
          let e = h.reserve_is k low in
          let f = steady.same k low in
          let g = sum_by_push (λ (t : Schedule). slice_index t.reserve k) plan s in
          omega (arith, is, e, f, g);
    }

-- ---- one schedule: its lists, and the greatest power and reserve

pub record IsWithin (most : ℕ) (s : Schedule) : Type 0 where
  pub steady : IsSteady s
  pub power : (k : ℕ) → slice_index s.power k ≤ most
  pub reserve : (k : ℕ) → slice_index s.reserve k ≤ most

by_lt : {P : Type 0} → (a b : ℕ) → (a < b → P) → (b ≤ a → P) → P
by_lt a b f g = elim (cases_lt a b) [ inl low ↦ f low | inr past ↦ g past ]

replicate_low : (n most x k : ℕ) → x ≤ most → get_or (replicate n x) k 0 ≤ most
replicate_low n most x k h =
    by_lt k n (λ low. let e = get_or-replicate n k x 0 low in omega (arith, e, h))
    (λ past. let e = get_or_past (replicate n x) k 0 (omega (arith, past, length-replicate n x)) in omega (arith, e))

power_low : (level high most k : ℕ) → level ≤ most → high ≤ most → power_at level high k ≤ most
unfolding power_at
power_low level high most k h i =
    elim (is_high k) as (λ (b : Bool). (if b then high else level) ≤ most) [ true ↦ i | false ↦ h ]

pub running_within : (level high reserve most : ℕ) → level ≤ most → high ≤ most → reserve ≤ most →
    IsWithin most (running level high reserve)
unfolding running
running_within level high reserve most h i j = record {
  steady = record {
    powers = length-map-range_with_len (power_at level high) 0 48;
    reserves = length-replicate 48 reserve;
    same = λ k low. get_or-replicate 48 k reserve 0 low ∙ sym (get_or-replicate 48 0 reserve 0 (omega arith));
  };
  power = λ k. by_lt k 48
      (λ low. let e = get_or-map-range_with_len (power_at level high) 0 48 k k 0 low (omega arith) in
      let f = power_low level high most k h i in omega (arith, e, f))
      (λ past.
      let e = get_or_past (map (power_at level high) (range_with_len 0 48)) k 0
      (omega (arith, past, length-map-range_with_len (power_at level high) 0 48)) in
      omega (arith, e));
  reserve = λ k. replicate_low 48 most reserve k j;
}

pub idle_within : (most : ℕ) → IsWithin most idle
unfolding idle
idle_within most = record {
  steady = record {
    powers = length-replicate {A = ℕ} 48 0;
    reserves = length-replicate {A = ℕ} 48 0;
    same = λ k low. get_or-replicate 48 k 0 0 low ∙ sym (get_or-replicate {A = ℕ} 48 0 0 0 (omega arith));
  };
  power = λ k. replicate_low 48 most 0 k (omega arith);
  reserve = λ k. replicate_low 48 most 0 k (omega arith);
}

pub unit_within : (d : UnitDraws) → AreDrawn d → IsWithin 400000 (unit_schedule d)
unfolding unit_schedule
unit_within d h =
    let r = has_range d h in
    elim (is_on d) as (λ (b : Bool). IsWithin 400000
    (if b then running (level_of d) (high_of d) (reserve_of d) else idle)) [
      | true ↦ running_within (level_of d) (high_of d) (reserve_of d) 400000 (omega (arith, r)) (omega (arith, r))
          (omega (arith, r))
      | false ↦ idle_within 400000
    ]

pub full_within : (powers : List ℕ) → ArePowers powers → IsWithin 400000 (full powers)
unfolding full
full_within powers h = record {
  steady = record {
    powers = h.count;
    reserves = length-replicate {A = ℕ} 48 0;
    same = λ k low. get_or-replicate 48 k 0 0 low ∙ sym (get_or-replicate {A = ℕ} 48 0 0 0 (omega arith));
  };
  power = λ k. by_lt k (length powers) (λ low. let e = h.most k 0 low in omega (arith, e))
      (λ past. let e = get_or_past powers k 0 past in omega (arith, e));
  reserve = λ k. replicate_low 48 400000 0 k (omega arith);
}

-- ---- the sums of all schedules

pub sums_low : (most : ℕ) (plan : List Schedule) → All (IsWithin most) plan → IsSmall (length plan * most) plan
sums_low most plan h = record {
  powers = λ k. sum_by-le (λ (s : Schedule). slice_index s.power k) most plan (λ i d low. (h i d low).power k);
  reserves = λ k. sum_by-le (λ (s : Schedule). slice_index s.reserve k) most plan (λ i d low. (h i d low).reserve k);
}

pub thermal_within : (g : Lcg) (count : ℕ) → All (IsWithin 400000) (thermal_plan g count)
unfolding thermal_plan unit_plan
thermal_within g count =
    All-map (IsWithin 400000) (unit_plan g) (range_with_len 0 count)
    (λ k d low. let p : ℕ = unit_place (get_or (range_with_len 0 count) k d) in
    unit_within (unit_draws g p) (draws_within g p))

pub renewables_within : (g : Lcg) (index count : ℕ) → All (IsWithin 400000) (renewable_plans g index count)
unfolding renewable_plans renewable_plan
renewables_within g index count =
    All-map (IsWithin 400000) (renewable_plan g index) (range_with_len 0 count)
    (λ k d low. let p : ℕ = renewable_place index (get_or (range_with_len 0 count) k d) in
    full_within (most_powers g p) (powers_within g p))

pub length-thermal_plan : (g : Lcg) (count : ℕ) → length (thermal_plan g count) ≡ count
unfolding thermal_plan
length-thermal_plan g count = length-map-range_with_len (unit_plan g) 0 count

pub length-renewable_plans : (g : Lcg) (index count : ℕ) → length (renewable_plans g index count) ≡ count
unfolding renewable_plans
length-renewable_plans g index count = length-map-range_with_len (renewable_plan g index) 0 count

pub thermal_small : (g : Lcg) (count : ℕ) → count ≤ 73 → IsSmall 40000000 (thermal_plan g count)
thermal_small g count h =
    let s = sums_low 400000 (thermal_plan g count) (thermal_within g count) in
    let e = length-thermal_plan g count in
    record {
      powers = λ k. let p = s.powers k in omega (arith, h, e, p);
      reserves = λ k. let p = s.reserves k in
          omega (arith, h, e, p);
    }

pub grown_small : (plan : List Schedule) (g : Lcg) (index count : ℕ) → IsSmall 40000000 plan → count ≤ 81 →
    IsSmall 100000000 (plan ++ renewable_plans g index count)
grown_small plan g index count h low =
    let s = sums_low 400000 (renewable_plans g index count) (renewables_within g index count) in
    let e = length-renewable_plans g index count in
    record {
      powers = λ k.
          let join = sum_by-append (λ (s : Schedule). slice_index s.power k) plan (renewable_plans g index count) in
          let p = s.powers k in
          let q = h.powers k in
          omega (arith, low, e, p, q, join);
      reserves = λ k.
          let join = sum_by-append (λ (s : Schedule). slice_index s.reserve k) plan (renewable_plans g index count) in
          let p = s.reserves k in
          let q = h.reserves k in
          omega (arith, low, e, p, q, join);
    }

pub smaller : (plan : List Schedule) → IsSmall 40000000 plan → IsSmall 100000000 plan
smaller plan h = record {
  powers = λ k. let p = h.powers k in omega (arith, p);
  reserves = λ k. let p = h.reserves k in
      omega (arith, p);
}
