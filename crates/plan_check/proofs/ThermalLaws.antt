-- What is refused of a thermal unit's schedule is what keeps it from being feasible.
use Rattle.plan_check.proofs.Common.{◌≡◌, ℕ, zero, suc, ◌-◌, ◌<◌, ◌≤◌, inl, inr, ℤ, pos, ◌+ℤ◌, ◌-ℤ◌, ◌≤ℤ◌, Bool, true}
use Rattle.plan_check.proofs.Common.{false, not, ◌&&◌, cond, None, IsTrue, IsFalse, [], length, refl, sym, ap, ◌∙◌}
use Rattle.plan_check.proofs.Common.{arith, ints, clamps, nat_le, int_le, slice_index, int_min, MustRun, Initial, MinUp}
use Rattle.plan_check.proofs.Common.{MinDown, Range, StartCap, StopCap, RampUp, RampDown, Window, ThermalUnit, Schedule}
use Rattle.plan_check.proofs.Common.{unless, or_else, same_flag, must_run_broken, initial_broken, min_up_broken}
use Rattle.plan_check.proofs.Common.{min_down_broken, range_broken, start_broken, output_in, stop_broken}
use Rattle.plan_check.proofs.Common.{ramp_up_broken, ramp_down_broken, mark_broken, window_broken, thermal_refusals}
use Rattle.plan_check.proofs.Common.{on_in, power_in, reserve_in, above_min, above_with_reserve, starts_in, stops_in}
use Rattle.plan_check.proofs.Common.{IsPeriod, mark_in, KeepsCommitment, cap_of, KeepsDispatch, IsThermalFeasible}
use Rattle.plan_check.proofs.Common.{true_or_false}
use Rattle.uc_model.specs.declared.units.Mark.{Mark}
use Rattle.uc_model.specs.declared.units.Mark.TheVariants.{Free, MustOff, MustOn}
use Rattle.uc_model.specs.declared.kinds.Kind.TheVariants as kinds
use Rattle.uc_model.specs.TaskLists.{flag_number}
use Rattle.plan_check.proofs.RunLaws.{false_true, not_true, same_is, same_refl, le_from, le_to, starts_is, stops_is}
use Rattle.plan_check.proofs.RunLaws.{keeps_up, keeps_down, clear_up, clear_down}
use Rattle.plan_check.proofs.ToldLaws.{append_nil_left, append_nil_right, append_nil, told_none, told_all, unless_none}
use Rattle.plan_check.proofs.ToldLaws.{unless_holds, or_else_none, or_else_holds, if_none, if_holds}

-- ---- no rule of the unit is broken

pub record IsClear (periods : ℕ) (g : ThermalUnit) (s : Schedule) : Type 0 where
  pub must_run : (k : ℕ) → k < periods → must_run_broken g s k ≡ None
  pub initial : (k : ℕ) → k < periods → initial_broken g s k ≡ None
  pub min_up : (k : ℕ) → k < periods → min_up_broken g s k ≡ None
  pub min_down : (k : ℕ) → k < periods → min_down_broken g s k ≡ None
  pub range : (k : ℕ) → k < periods → range_broken g s k ≡ None
  pub start : (k : ℕ) → k < periods → start_broken g s k ≡ None
  pub stop : (k : ℕ) → k < periods → stop_broken g s k ≡ None
  pub ramp_up : (k : ℕ) → k < periods → ramp_up_broken g s k ≡ None
  pub ramp_down : (k : ℕ) → k < periods → ramp_down_broken g s k ≡ None
  pub window : (k : ℕ) → k < periods → window_broken g s k ≡ None

module _ (periods unit : ℕ) (g : ThermalUnit) (s : Schedule) where
  pub IsClear-none : thermal_refusals periods unit g s ≡ [] → IsClear periods g s
  IsClear-none e =
      let e9 = append_nil_left _ _ e in
      let e8 = append_nil_left _ _ e9 in
      let e7 = append_nil_left _ _ e8 in
      let e6 = append_nil_left _ _ e7 in
      let e5 = append_nil_left _ _ e6 in
      let e4 = append_nil_left _ _ e5 in
      let e3 = append_nil_left _ _ e4 in
      let e2 = append_nil_left _ _ e3 in
      record {
        must_run = told_all MustRun kinds.Thermal unit periods 1 (must_run_broken g s) (append_nil_left _ _ e2);
        initial = told_all Initial kinds.Thermal unit periods 1 (initial_broken g s) (append_nil_right _ _ e2);
        min_up = told_all MinUp kinds.Thermal unit periods 1 (min_up_broken g s) (append_nil_right _ _ e3);
        min_down = told_all MinDown kinds.Thermal unit periods 1 (min_down_broken g s) (append_nil_right _ _ e4);
        range = told_all Range kinds.Thermal unit periods 1 (range_broken g s) (append_nil_right _ _ e5);
        start = told_all StartCap kinds.Thermal unit periods 1 (start_broken g s) (append_nil_right _ _ e6);
        stop = told_all StopCap kinds.Thermal unit periods 0 (stop_broken g s) (append_nil_right _ _ e7);
        ramp_up = told_all RampUp kinds.Thermal unit periods 1 (ramp_up_broken g s) (append_nil_right _ _ e8);
        ramp_down = told_all RampDown kinds.Thermal unit periods 1 (ramp_down_broken g s) (append_nil_right _ _ e9);
        window = told_all Window kinds.Thermal unit periods 1 (window_broken g s) (append_nil_right _ _ e);
      }

  pub none_clear : IsClear periods g s → thermal_refusals periods unit g s ≡ []
  none_clear c =
      let e1 = told_none MustRun kinds.Thermal unit periods 1 (must_run_broken g s) c.must_run in
      let e2 = append_nil _ _ e1 (told_none Initial kinds.Thermal unit periods 1 (initial_broken g s) c.initial) in
      let e3 = append_nil _ _ e2 (told_none MinUp kinds.Thermal unit periods 1 (min_up_broken g s) c.min_up) in
      let e4 = append_nil _ _ e3 (told_none MinDown kinds.Thermal unit periods 1 (min_down_broken g s) c.min_down) in
      let e5 = append_nil _ _ e4 (told_none Range kinds.Thermal unit periods 1 (range_broken g s) c.range) in
      let e6 = append_nil _ _ e5 (told_none StartCap kinds.Thermal unit periods 1 (start_broken g s) c.start) in
      let e7 = append_nil _ _ e6 (told_none StopCap kinds.Thermal unit periods 0 (stop_broken g s) c.stop) in
      let e8 = append_nil _ _ e7 (told_none RampUp kinds.Thermal unit periods 1 (ramp_up_broken g s) c.ramp_up) in
      let e9 = append_nil _ _ e8 (told_none RampDown kinds.Thermal unit periods 1 (ramp_down_broken g s) c.ramp_down) in
      append_nil _ _ e9 (told_none Window kinds.Thermal unit periods 1 (window_broken g s) c.window)

-- ---- the two forms of the dispatch rules

pub le_from_z : (a b : ℤ) → int_le a b ≡ true → a ≤ℤ b
le_from_z a b h = grind (arith, ints)

pub le_to_z : (a b : ℤ) → a ≤ℤ b → int_le a b ≡ true
le_to_z a b h = grind (arith, ints)

zero_power : (n : ℕ) → pos n ≤ℤ pos 0 → n ≡ 0
zero_power n h = omega (arith, ints, h)

must_run_test : (a b : Bool) → not (a && not b) ≡ true → a ≡ true → b ≡ true
must_run_test true true h e = refl
must_run_test true false h e = h
must_run_test false b h e = absurd (false_true e)

must_run_back : (a b : Bool) → (a ≡ true → b ≡ true) → not (a && not b) ≡ true
must_run_back true b h = ap (λ t. not (true && not t)) (h refl)
must_run_back false b h = refl

mark_on : (m : Mark) (b : Bool) → mark_broken m b ≡ None → m ≡ MustOn → b ≡ true
mark_on m b e is = unless_none b (pos 0) (pos 1) (sym (ap (λ x. mark_broken x b) is) ∙ e)

mark_off : (m : Mark) (b : Bool) → mark_broken m b ≡ None → m ≡ MustOff → b ≡ false
mark_off m b e is = not_true b (unless_none (not b) (pos 1) (pos 0) (sym (ap (λ x. mark_broken x b) is) ∙ e))

mark_back : (m : Mark) (b : Bool) → (m ≡ MustOn → b ≡ true) → (m ≡ MustOff → b ≡ false) → mark_broken m b ≡ None
mark_back Free b on off = refl
mark_back MustOff b on off = unless_holds (not b) (pos 1) (pos 0) (ap not (off refl))
mark_back MustOn b on off = unless_holds b (pos 0) (pos 1) (on refl)

module _ (g : ThermalUnit) (s : Schedule) where
  pub above_on : (k : ℕ) → on_in g s (suc k) ≡ true → above_min g s (suc k) ≡ power_in s (suc k) -ℤ g.min_power
  above_on k on = ap (λ t. cond t (power_in s (suc k) -ℤ g.min_power) (pos 0)) on

  range_on : (k : ℕ) → on_in g s (suc k) ≡ true →
      range_broken g s k ≡ or_else (unless (int_le g.min_power (power_in s (suc k))) g.min_power (power_in s (suc k)))
      (unless (int_le (power_in s (suc k) +ℤ reserve_in s (suc k)) g.max_power)
      (power_in s (suc k) +ℤ reserve_in s (suc k)) g.max_power)
  range_on k on =
      ap (λ t. cond t (or_else (unless (int_le g.min_power (power_in s (suc k))) g.min_power (power_in s (suc k)))
      (unless (int_le (power_in s (suc k) +ℤ reserve_in s (suc k)) g.max_power)
      (power_in s (suc k) +ℤ reserve_in s (suc k)) g.max_power))
      (or_else (unless (int_le (power_in s (suc k)) (pos 0)) (power_in s (suc k)) (pos 0))
      (unless (int_le (reserve_in s (suc k)) (pos 0)) (reserve_in s (suc k)) (pos 0)))) on

  range_off : (k : ℕ) → on_in g s (suc k) ≡ false →
      range_broken g s k ≡ or_else (unless (int_le (power_in s (suc k)) (pos 0)) (power_in s (suc k)) (pos 0))
      (unless (int_le (reserve_in s (suc k)) (pos 0)) (reserve_in s (suc k)) (pos 0))
  range_off k off =
      ap (λ t. cond t (or_else (unless (int_le g.min_power (power_in s (suc k))) g.min_power (power_in s (suc k)))
      (unless (int_le (power_in s (suc k) +ℤ reserve_in s (suc k)) g.max_power)
      (power_in s (suc k) +ℤ reserve_in s (suc k)) g.max_power))
      (or_else (unless (int_le (power_in s (suc k)) (pos 0)) (power_in s (suc k)) (pos 0))
      (unless (int_le (reserve_in s (suc k)) (pos 0)) (reserve_in s (suc k)) (pos 0)))) off

-- ---- a clear schedule is feasible

module _ (periods : ℕ) (g : ThermalUnit) (s : Schedule) (on_length : length s.on ≡ periods)
    (power_length : length s.power ≡ periods) (reserve_length : length s.reserve ≡ periods) where
  inside : (k : ℕ) → IsPeriod s (suc k) → k < periods
  inside k p = omega (arith, on_length)

  period : (k : ℕ) → k < periods → IsPeriod s (suc k)
  period k lt = record { from_one = omega arith; to_last = omega (arith, lt, on_length) }

  of_period : (P : ℕ → Type 0) → ((k : ℕ) → k < periods → P (suc k)) → (t : ℕ) → IsPeriod s t → P t
  of_period P f zero p = absurd (omega (arith, p.from_one))
  of_period P f (suc k) p = f k (inside k p)

  module _ (c : IsClear periods g s) where
    on_range : (k : ℕ) → k < periods → on_in g s (suc k) ≡ true →
        (g.min_power ≤ℤ power_in s (suc k)) × ((power_in s (suc k) +ℤ reserve_in s (suc k)) ≤ℤ g.max_power)
    on_range k lt on =
        let parts = or_else_none (unless (int_le g.min_power (power_in s (suc k))) g.min_power (power_in s (suc k)))
        (unless (int_le (power_in s (suc k) +ℤ reserve_in s (suc k)) g.max_power)
        (power_in s (suc k) +ℤ reserve_in s (suc k)) g.max_power) (sym (range_on g s k on) ∙ c.range k lt) in (
          le_from_z g.min_power (power_in s (suc k))
              (unless_none (int_le g.min_power (power_in s (suc k))) g.min_power (power_in s (suc k)) parts.0),
          le_from_z (power_in s (suc k) +ℤ reserve_in s (suc k)) g.max_power
              (unless_none (int_le (power_in s (suc k) +ℤ reserve_in s (suc k)) g.max_power)
              (power_in s (suc k) +ℤ reserve_in s (suc k)) g.max_power parts.1),
        )

    off_range : (k : ℕ) → k < periods → on_in g s (suc k) ≡ false →
        (slice_index s.power k ≡ 0) × (slice_index s.reserve k ≡ 0)
    off_range k lt off =
        let parts = or_else_none (unless (int_le (power_in s (suc k)) (pos 0)) (power_in s (suc k)) (pos 0))
        (unless (int_le (reserve_in s (suc k)) (pos 0)) (reserve_in s (suc k)) (pos 0))
        (sym (range_off g s k off) ∙ c.range k lt) in (
          zero_power (slice_index s.power k)
              (le_from_z (power_in s (suc k)) (pos 0)
              (unless_none (int_le (power_in s (suc k)) (pos 0)) (power_in s (suc k)) (pos 0) parts.0)),
          zero_power (slice_index s.reserve k)
              (le_from_z (reserve_in s (suc k)) (pos 0)
              (unless_none (int_le (reserve_in s (suc k)) (pos 0)) (reserve_in s (suc k)) (pos 0) parts.1)),
        )

    keeps_initial : (t : ℕ) → IsPeriod s t → t ≤ cond g.on0 (g.min_up - g.up0) (g.min_down - g.down0) →
        on_in g s t ≡ g.on0
    keeps_initial zero p le = absurd (omega (arith, p.from_one))
    keeps_initial (suc k) p le =
        let test = le_to (suc k) (cond g.on0 (g.min_up - g.up0) (g.min_down - g.down0)) le in
        same_is g.on0 (on_in g s (suc k))
        (unless_none (same_flag g.on0 (on_in g s (suc k))) (flag_number (on_in g s (suc k))) (flag_number g.on0)
        (if_none (nat_le (suc k) (cond g.on0 (g.min_up - g.up0) (g.min_down - g.down0)))
        (unless (same_flag g.on0 (on_in g s (suc k))) (flag_number (on_in g s (suc k))) (flag_number g.on0))
        (c.initial k (inside k p)) test))

    commitment : KeepsCommitment g s
    commitment = record {
      must_run = λ m. of_period (λ t. IsTrue (on_in g s t))
          (λ k lt. must_run_test g.must_run (on_in g s (suc k))
          (unless_none (not (g.must_run && not (on_in g s (suc k)))) (pos 0) (pos 1) (c.must_run k lt)) m);
      stays_on = λ on0 t p le. keeps_initial t p
          (let e = ap (λ b. cond b (g.min_up - g.up0) (g.min_down - g.down0)) on0 in omega (arith, e, le)) ∙ on0;
      stays_off = λ off0 t p le. keeps_initial t p
          (let e = ap (λ b. cond b (g.min_up - g.up0) (g.min_down - g.down0)) off0 in omega (arith, e, le)) ∙ off0;
      min_up = keeps_up g s (λ k lt. c.min_up k (omega (arith, lt, on_length)));
      min_down = keeps_down g s (λ k lt. c.min_down k (omega (arith, lt, on_length)));
      must_on = of_period (λ t. mark_in g.window t ≡ MustOn → IsTrue (on_in g s t))
          (λ k lt. mark_on (mark_in g.window (suc k)) (on_in g s (suc k)) (c.window k lt));
      must_off = of_period (λ t. mark_in g.window t ≡ MustOff → IsFalse (on_in g s t))
          (λ k lt. mark_off (mark_in g.window (suc k)) (on_in g s (suc k)) (c.window k lt));
    }

    keeps_start : (t : ℕ) → IsPeriod s t → IsTrue (starts_in g s t) → above_with_reserve g s t ≤ℤ cap_of g true false
    keeps_start zero p start = absurd (false_true start)
    keeps_start (suc k) p start =
        let on = (starts_is g s k start).1 in
        let a = above_on g s k on in
        let test = if_none (starts_in g s (suc k))
        (unless (int_le (power_in s (suc k) +ℤ reserve_in s (suc k)) (int_min g.start_limit g.max_power))
        (power_in s (suc k) +ℤ reserve_in s (suc k)) (int_min g.start_limit g.max_power))
        (c.start k (inside k p)) start in
        let r = le_from_z (power_in s (suc k) +ℤ reserve_in s (suc k)) (int_min g.start_limit g.max_power)
        (unless_none (int_le (power_in s (suc k) +ℤ reserve_in s (suc k)) (int_min g.start_limit g.max_power))
        (power_in s (suc k) +ℤ reserve_in s (suc k)) (int_min g.start_limit g.max_power) test) in
        omega (arith, ints, clamps, r, a)

    stop_test : (t : ℕ) → t < periods → IsTrue (stops_in g s (suc t)) →
        output_in g s t ≤ℤ int_min g.stop_limit g.max_power
    stop_test t lt stop =
        let test = if_none (stops_in g s (suc t))
        (unless (int_le (output_in g s t) (int_min g.stop_limit g.max_power)) (output_in g s t)
        (int_min g.stop_limit g.max_power)) (c.stop t lt) stop in
        le_from_z (output_in g s t) (int_min g.stop_limit g.max_power)
        (unless_none (int_le (output_in g s t) (int_min g.stop_limit g.max_power)) (output_in g s t)
        (int_min g.stop_limit g.max_power) test)

    keeps_stop : (t : ℕ) → IsPeriod s t → IsPeriod s (suc t) → IsTrue (stops_in g s (suc t)) →
        above_with_reserve g s t ≤ℤ cap_of g false true
    keeps_stop zero p q stop = absurd (omega (arith, p.from_one))
    keeps_stop (suc k) p q stop =
        let on = (stops_is g s (suc k) stop).0 in
        let a = above_on g s k on in
        let r = stop_test (suc k) (inside (suc k) q) stop in
        omega (arith, ints, clamps, r, a)

    dispatch : KeepsDispatch g s
    dispatch = record {
      least = of_period (λ t. IsTrue (on_in g s t) → pos 0 ≤ℤ above_min g s t)
          (λ k lt on. (let r = (on_range k lt on).0 in let a = above_on g s k on in omega (arith, ints, r, a)));
      greatest = of_period (λ t. IsTrue (on_in g s t) → above_with_reserve g s t ≤ℤ cap_of g false false)
          (λ k lt on. (let r = (on_range k lt on).1 in let a = above_on g s k on in omega (arith, ints, clamps, r, a)));
      start = keeps_start;
      stop = keeps_stop;
      stop_at_once = λ p stop. stop_test 0 (inside 0 p) stop;
      ramp_up = λ k p. le_from_z (above_with_reserve g s (suc k) -ℤ above_min g s k) g.ramp_up
          (unless_none (int_le (above_with_reserve g s (suc k) -ℤ above_min g s k) g.ramp_up)
          (above_with_reserve g s (suc k) -ℤ above_min g s k) g.ramp_up (c.ramp_up k (inside k p)));
      ramp_down = λ k p. le_from_z (above_min g s k -ℤ above_min g s (suc k)) g.ramp_down
          (unless_none (int_le (above_min g s k -ℤ above_min g s (suc k)) g.ramp_down)
          (above_min g s k -ℤ above_min g s (suc k)) g.ramp_down (c.ramp_down k (inside k p)));
    }

    pub IsThermalFeasible-clear : IsThermalFeasible g periods s
    IsThermalFeasible-clear = record {
      schedule = record { on = on_length; power = power_length; reserve = reserve_length; off = off_range };
      commitment = commitment;
      dispatch = dispatch;
    }

  -- ---- and a feasible one is clear

  module _ (f : IsThermalFeasible g periods s) where
    range_clear : (k : ℕ) → k < periods → range_broken g s k ≡ None
    range_clear k lt =
        elim (true_or_false (on_in g s (suc k))) [
          | inl on ↦
              let a = above_on g s k on in
              let low = f.dispatch.least (suc k) (period k lt) on in
              let high = f.dispatch.greatest (suc k) (period k lt) on in
              range_on g s k on ∙
              or_else_holds (unless (int_le g.min_power (power_in s (suc k))) g.min_power (power_in s (suc k)))
              (unless (int_le (power_in s (suc k) +ℤ reserve_in s (suc k)) g.max_power)
              (power_in s (suc k) +ℤ reserve_in s (suc k)) g.max_power)
              (unless_holds (int_le g.min_power (power_in s (suc k))) g.min_power (power_in s (suc k))
              (le_to_z g.min_power (power_in s (suc k)) (omega (arith, ints, low, a))))
              (unless_holds (int_le (power_in s (suc k) +ℤ reserve_in s (suc k)) g.max_power)
              (power_in s (suc k) +ℤ reserve_in s (suc k)) g.max_power
              (le_to_z (power_in s (suc k) +ℤ reserve_in s (suc k)) g.max_power
              (omega (arith, ints, clamps, high, a))))
          | inr off ↦
              let none = f.schedule.off k lt off in
              let a = none.0 in
              range_off g s k off ∙ or_else_holds
              (unless (int_le (power_in s (suc k)) (pos 0)) (power_in s (suc k)) (pos 0))
              (unless (int_le (reserve_in s (suc k)) (pos 0)) (reserve_in s (suc k)) (pos 0))
              (unless_holds (int_le (power_in s (suc k)) (pos 0)) (power_in s (suc k)) (pos 0)
              (le_to_z (power_in s (suc k)) (pos 0) (omega (arith, ints, a))))
              (unless_holds (int_le (reserve_in s (suc k)) (pos 0)) (reserve_in s (suc k)) (pos 0)
              (le_to_z (reserve_in s (suc k)) (pos 0) (omega (arith, ints))))
        ]

    initial_clear : (k : ℕ) → k < periods → initial_broken g s k ≡ None
    initial_clear k lt =
        if_holds (nat_le (suc k) (cond g.on0 (g.min_up - g.up0) (g.min_down - g.down0)))
        (unless (same_flag g.on0 (on_in g s (suc k))) (flag_number (on_in g s (suc k))) (flag_number g.on0))
        (λ test. unless_holds (same_flag g.on0 (on_in g s (suc k))) (flag_number (on_in g s (suc k)))
        (flag_number g.on0)
        (let le = le_from (suc k) (cond g.on0 (g.min_up - g.up0) (g.min_down - g.down0)) test in
        let is : on_in g s (suc k) ≡ g.on0 =
        elim (true_or_false g.on0) [
          | inl on0 ↦ f.commitment.stays_on on0 (suc k) (period k lt)
              (let e = ap (λ b. cond b (g.min_up - g.up0) (g.min_down - g.down0)) on0 in omega (arith, e, le)) ∙ sym on0
          | inr off0 ↦ f.commitment.stays_off off0 (suc k) (period k lt)
              (let e = ap (λ b. cond b (g.min_up - g.up0) (g.min_down - g.down0)) off0 in omega (arith, e, le)) ∙
              sym off0
        ] in
        ap (same_flag g.on0) is ∙ same_refl g.on0))

    start_clear : (k : ℕ) → k < periods → start_broken g s k ≡ None
    start_clear k lt =
        if_holds (starts_in g s (suc k))
        (unless (int_le (power_in s (suc k) +ℤ reserve_in s (suc k)) (int_min g.start_limit g.max_power))
        (power_in s (suc k) +ℤ reserve_in s (suc k)) (int_min g.start_limit g.max_power))
        (λ start.
        let a = above_on g s k (starts_is g s k start).1 in
        let h = f.dispatch.start (suc k) (period k lt) start in
        unless_holds (int_le (power_in s (suc k) +ℤ reserve_in s (suc k)) (int_min g.start_limit g.max_power))
        (power_in s (suc k) +ℤ reserve_in s (suc k)) (int_min g.start_limit g.max_power)
        (le_to_z (power_in s (suc k) +ℤ reserve_in s (suc k)) (int_min g.start_limit g.max_power)
        (omega (arith, ints, clamps, h, a))))

    stop_within : (t : ℕ) → t < periods → IsTrue (stops_in g s (suc t)) →
        output_in g s t ≤ℤ int_min g.stop_limit g.max_power
    stop_within zero lt stop = f.dispatch.stop_at_once (period 0 lt) stop
    stop_within (suc k) lt stop =
        let a = above_on g s k (stops_is g s (suc k) stop).0 in
        let h = f.dispatch.stop (suc k) (period k (omega (arith, lt))) (period (suc k) lt) stop in
        omega (arith, ints, clamps, h, a)

    stop_clear : (t : ℕ) → t < periods → stop_broken g s t ≡ None
    stop_clear t lt =
        if_holds (stops_in g s (suc t)) (unless (int_le (output_in g s t) (int_min g.stop_limit g.max_power))
        (output_in g s t) (int_min g.stop_limit g.max_power))
        (λ stop. unless_holds (int_le (output_in g s t) (int_min g.stop_limit g.max_power)) (output_in g s t)
        (int_min g.stop_limit g.max_power)
        (le_to_z (output_in g s t) (int_min g.stop_limit g.max_power) (stop_within t lt stop)))

    pub IsClear-feasible : IsClear periods g s
    IsClear-feasible = record {
      must_run = λ k lt. unless_holds (not (g.must_run && not (on_in g s (suc k)))) (pos 0) (pos 1)
          (must_run_back g.must_run (on_in g s (suc k)) (λ m. f.commitment.must_run m (suc k) (period k lt)));
      initial = initial_clear;
      min_up = λ k lt. clear_up g s f.commitment.min_up k (omega (arith, lt, on_length));
      min_down = λ k lt. clear_down g s f.commitment.min_down k (omega (arith, lt, on_length));
      range = range_clear;
      start = start_clear;
      stop = stop_clear;
      ramp_up = λ k lt. unless_holds (int_le (above_with_reserve g s (suc k) -ℤ above_min g s k) g.ramp_up)
          (above_with_reserve g s (suc k) -ℤ above_min g s k) g.ramp_up
          (le_to_z (above_with_reserve g s (suc k) -ℤ above_min g s k) g.ramp_up (f.dispatch.ramp_up k (period k lt)));
      ramp_down = λ k lt. unless_holds (int_le (above_min g s k -ℤ above_min g s (suc k)) g.ramp_down)
          (above_min g s k -ℤ above_min g s (suc k)) g.ramp_down
          (le_to_z (above_min g s k -ℤ above_min g s (suc k)) g.ramp_down (f.dispatch.ramp_down k (period k lt)));
      window = λ k lt. mark_back (mark_in g.window (suc k)) (on_in g s (suc k))
          (f.commitment.must_on (suc k) (period k lt)) (f.commitment.must_off (suc k) (period k lt));
    }
