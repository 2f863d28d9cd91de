-- A unit that stays as it is before the horizon keeps all rules.
use Rattle.case_make.proofs.Common.{◌≡◌, ℕ, zero, suc, ◌+◌, ◌<◌, ◌≤◌, ℤ, pos, ◌+ℤ◌, ◌-ℤ◌, ◌≤ℤ◌, Bool, true, false, not}
use Rattle.case_make.proofs.Common.{◌&&◌, if◌then◌else◌, length, slice_index, slice_index_or, refl, ap, sym, ◌∙◌, arith}
use Rattle.case_make.proofs.Common.{ints, clamps, Mark, Free, MustOn, MustOff, ThermalUnit, Schedule, on_in, above_min}
use Rattle.case_make.proofs.Common.{above_with_reserve, starts_in, stops_in, mark_in, cap_of, IsPeriod, KeepsCommitment}
use Rattle.case_make.proofs.Common.{KeepsDispatch, IsThermalFeasible}

-- a schedule over n periods with one flag throughout, which is that of the unit before the horizon; the unit need not
-- run, and its window is free
pub record Stays (n : ℕ) (flag : Bool) (u : ThermalUnit) (s : Schedule) : Type 0 where
  pub on : length s.on ≡ n
  pub power : length s.power ≡ n
  pub reserve : length s.reserve ≡ n
  pub flags : (k : ℕ) → k < n → slice_index_or s.on k false ≡ flag
  pub before : u.on0 ≡ flag
  pub free : u.must_run ≡ false
  pub window : (k : ℕ) → k < n → slice_index_or u.window k Free ≡ Free

not_both : (a : Bool) → a ≡ true → a ≡ false → ⊥
not_both a e f = cc

off_then_on : (b : Bool) → (not b && b) ≡ false
off_then_on true = refl
off_then_on false = refl

on_then_off : (b : Bool) → (b && not b) ≡ false
on_then_off true = refl
on_then_off false = refl

free_not_on : (m : Mark) → m ≡ Free → m ≡ MustOn → ⊥
free_not_on m e f = cc

free_not_off : (m : Mark) → m ≡ Free → m ≡ MustOff → ⊥
free_not_off m e f = cc

module _ (n : ℕ) (flag : Bool) (u : ThermalUnit) (s : Schedule) (h : Stays n flag u s) where
  same_flag : (t : ℕ) → t ≤ n → on_in u s t ≡ flag
  same_flag zero low = h.before
  same_flag (suc k) low = h.flags k (omega (arith, low))

  within : (t : ℕ) → IsPeriod s t → t ≤ n
  within t p = let low = p.to_last in let e = h.on in omega (arith, low, e)

  never_starts : (t : ℕ) → t ≤ n → starts_in u s t ≡ false
  never_starts zero low = refl
  never_starts (suc k) low =
      ap (λ (x : Bool). not x && on_in u s (suc k)) (same_flag k (omega (arith, low)))
      ∙ ap (λ (x : Bool). not flag && x) (same_flag (suc k) low) ∙ off_then_on flag

  never_stops : (t : ℕ) → t ≤ n → stops_in u s t ≡ false
  never_stops zero low = refl
  never_stops (suc k) low =
      ap (λ (x : Bool). x && not (on_in u s (suc k))) (same_flag k (omega (arith, low)))
      ∙ ap (λ (x : Bool). flag && not x) (same_flag (suc k) low) ∙ on_then_off flag

  free_mark : (t : ℕ) → t ≤ n → mark_in u.window t ≡ Free
  free_mark zero low = refl
  free_mark (suc k) low = h.window k (omega (arith, low))

  pub keeps_commitment : KeepsCommitment u s
  keeps_commitment = record {
    must_run = λ m t p. absurd (not_both u.must_run m h.free);
    stays_on = λ b t p low. same_flag t (within t p) ∙ sym h.before ∙ b;
    stays_off = λ b t p low. same_flag t (within t p) ∙ sym h.before ∙ b;
    min_up = λ start t b low high p. absurd (let top = within t p in
        not_both _ b (never_starts start (omega (arith, low, top))));
    min_down = λ stop t b low high p. absurd (let top = within t p in
        not_both _ b (never_stops stop (omega (arith, low, top))));
    must_on = λ t p m. absurd (free_not_on _ (free_mark t (within t p)) m);
    must_off = λ t p m. absurd (free_not_off _ (free_mark t (within t p)) m);
  }

-- ---- a unit that is on throughout

-- its powers lie between two numbers within its range, and its reserve fits above the higher one and into the ramp
pub record IsBetween (n least most ramp low high reserve : ℕ) (u : ThermalUnit) (s : Schedule) : Type 0 where
  pub powers_low : (k : ℕ) → k < n → low ≤ slice_index s.power k
  pub powers_high : (k : ℕ) → k < n → slice_index s.power k ≤ high
  pub reserves : (k : ℕ) → k < n → slice_index s.reserve k ≡ reserve
  pub first : u.power0 ≡ pos low
  pub least_is : u.min_power ≡ pos least
  pub most_is : u.max_power ≡ pos most
  pub up_is : u.ramp_up ≡ pos ramp
  pub down_is : u.ramp_down ≡ pos ramp
  pub above_least : least ≤ low
  pub rises : low ≤ high
  pub room : high + reserve ≤ most
  pub in_ramp : high + reserve ≤ low + ramp

module _ (n least most ramp low high reserve : ℕ) (u : ThermalUnit) (s : Schedule) (h : Stays n true u s)
    (b : IsBetween n least most ramp low high reserve u s) where
  above_is : (k : ℕ) → k < n → above_min u s (suc k) ≡ pos (slice_index s.power k) -ℤ pos least
  above_is k i = ap (λ (x : Bool). if x then pos (slice_index s.power k) -ℤ u.min_power else pos 0) (h.flags k i) ∙
      ap (λ (z : ℤ). pos (slice_index s.power k) -ℤ z) b.least_is

  first_is : above_min u s 0 ≡ pos low -ℤ pos least
  first_is = ap (λ (x : Bool). if x then u.power0 -ℤ u.min_power else pos 0) h.before ∙
      ap (λ (z : ℤ). z -ℤ u.min_power) b.first ∙ ap (λ (z : ℤ). pos low -ℤ z) b.least_is

  above_low : (t : ℕ) → t ≤ n → (pos low -ℤ pos least) ≤ℤ above_min u s t
  above_low zero i = let e = first_is in omega (arith, ints, e)
  above_low (suc k) i =
      let e = above_is k (omega (arith, i)) in
      let f = b.powers_low k (omega (arith, i)) in
      omega (arith, ints, e, f)

  above_high : (t : ℕ) → t ≤ n → above_min u s t ≤ℤ (pos high -ℤ pos least)
  above_high zero i = let e = first_is in let f = b.rises in omega (arith, ints, e, f)
  above_high (suc k) i =
      let e = above_is k (omega (arith, i)) in
      let f = b.powers_high k (omega (arith, i)) in
      omega (arith, ints, e, f)

  with_reserve : (t : ℕ) → t ≤ n → above_with_reserve u s t ≤ℤ ((pos high -ℤ pos least) +ℤ pos reserve)
  with_reserve zero i = let e = above_high 0 i in omega (arith, ints, e)
  with_reserve (suc k) i =
      let e = above_high (suc k) i in
      let f = b.reserves k (omega (arith, i)) in
      omega (arith, ints, e, f)

  cap_is : cap_of u false false ≡ pos most -ℤ pos least
  cap_is = let e = b.most_is in let f = b.least_is in omega (arith, ints, clamps, e, f)

  keeps_dispatch : KeepsDispatch u s
  keeps_dispatch =
      let above = b.above_least in
      let room = b.room in
      let in_ramp = b.in_ramp in
      let up = b.up_is in
      let down = b.down_is in
      record {
        least = λ t p on. let e = above_low t (within n true u s h t p) in omega (arith, ints, e, above);
        greatest = λ t p on. let e = with_reserve t (within n true u s h t p) in let f = cap_is in
            omega (arith, ints, e, f, room);
        start = λ t p on. absurd (not_both _ on (never_starts n true u s h t (within n true u s h t p)));
        stop = λ t p q on. absurd (not_both _ on (never_stops n true u s h (suc t) (within n true u s h (suc t) q)));
        stop_at_once = λ p on. absurd (not_both _ on (never_stops n true u s h 1 (within n true u s h 1 p)));
        ramp_up = λ k p.
            let top = within n true u s h (suc k) p in
            let e = with_reserve (suc k) top in
            let f = above_low k (omega (arith, top)) in
            omega (arith, ints, e, f, up, in_ramp);
        ramp_down = λ k p.
            let top = within n true u s h (suc k) p in
            let e = above_high k (omega (arith, top)) in
            let f = above_low (suc k) top in
            omega (arith, ints, e, f, down, in_ramp);
      }

  pub on_feasible : IsThermalFeasible u n s
  on_feasible = record {
    schedule = record {
      on = h.on;
      power = h.power;
      reserve = h.reserve;
      off = λ k i e. absurd (not_both _ (h.flags k i) e);
    };
    commitment = keeps_commitment n true u s h;
    dispatch = keeps_dispatch;
  }

-- ---- a unit that is off throughout

pub record IsIdle (n ramp : ℕ) (u : ThermalUnit) (s : Schedule) : Type 0 where
  pub powers : (k : ℕ) → k < n → slice_index s.power k ≡ 0
  pub reserves : (k : ℕ) → k < n → slice_index s.reserve k ≡ 0
  pub up_is : u.ramp_up ≡ pos ramp
  pub down_is : u.ramp_down ≡ pos ramp

module _ (n ramp : ℕ) (u : ThermalUnit) (s : Schedule) (h : Stays n false u s) (b : IsIdle n ramp u s) where
  nothing_above : (t : ℕ) → t ≤ n → above_min u s t ≡ pos 0
  nothing_above zero i = ap (λ (x : Bool). if x then u.power0 -ℤ u.min_power else pos 0) h.before
  nothing_above (suc k) i = ap (λ (x : Bool). if x then pos (slice_index s.power k) -ℤ u.min_power else pos 0)
      (h.flags k (omega (arith, i)))

  nothing_with_reserve : (k : ℕ) → suc k ≤ n → above_with_reserve u s (suc k) ≡ pos 0
  nothing_with_reserve k i = let e = nothing_above (suc k) i in let f = b.reserves k (omega (arith, i)) in
      omega (arith, ints, e, f)

  idle_dispatch : KeepsDispatch u s
  idle_dispatch =
      let up = b.up_is in
      let down = b.down_is in
      record {
        least = λ t p on. absurd (not_both _ on (same_flag n false u s h t (within n false u s h t p)));
        greatest = λ t p on. absurd (not_both _ on (same_flag n false u s h t (within n false u s h t p)));
        start = λ t p on. absurd (not_both _ on (never_starts n false u s h t (within n false u s h t p)));
        stop = λ t p q on. absurd (not_both _ on (never_stops n false u s h (suc t) (within n false u s h (suc t) q)));
        stop_at_once = λ p on. absurd (not_both _ on (never_stops n false u s h 1 (within n false u s h 1 p)));
        ramp_up = λ k p.
            let top = within n false u s h (suc k) p in
            let e = nothing_with_reserve k top in
            let f = nothing_above k (omega (arith, top)) in
            omega (arith, ints, e, f, up);
        ramp_down = λ k p.
            let top = within n false u s h (suc k) p in
            let e = nothing_above k (omega (arith, top)) in
            let f = nothing_above (suc k) top in
            omega (arith, ints, e, f, down);
      }

  pub off_feasible : IsThermalFeasible u n s
  off_feasible = record {
    schedule = record {
      on = h.on;
      power = h.power;
      reserve = h.reserve;
      off = λ k i e. (b.powers k i, b.reserves k i);
    };
    commitment = keeps_commitment n false u s h;
    dispatch = idle_dispatch;
  }
