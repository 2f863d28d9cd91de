-- A unit that is held to a schedule's commitment.
use Rattle.plan_settle.proofs.Common.{◌≡◌, ℕ, zero, suc, ◌<◌, Bool, true, false, List, [], ◌∷◌, map, length, refl, sym}
use Rattle.plan_settle.proofs.Common.{ap, ◌∙◌, arith, slice_index_or, ThermalUnit, Schedule, on_in, mark_in, IsPeriod}
use Rattle.plan_settle.proofs.Common.{IsThermalFeasible, held_mark, held_unit}
use Rattle.uc_model.specs.declared.units.Mark.TheVariants.{Free, MustOff, MustOn}

mark_at : (on : List Bool) (k : ℕ) → k < length on →
    slice_index_or (map held_mark on) k Free ≡ held_mark (slice_index_or on k false)
mark_at [] k h = absurd (omega (arith, h))
mark_at (b ∷ on) zero h = refl
mark_at (b ∷ on) (suc k) h = mark_at on k (omega (arith, h))

on_from_mark : (b : Bool) → held_mark b ≡ MustOn → b ≡ true
on_from_mark true e = refl
on_from_mark false e = absurd (cc)

off_from_mark : (b : Bool) → held_mark b ≡ MustOff → b ≡ false
off_from_mark true e = absurd (cc)
off_from_mark false e = refl

-- what a mark that is held says of a schedule with that commitment
must_on_is : (g : ThermalUnit) (held s : Schedule) → s.on ≡ held.on → (t : ℕ) → IsPeriod s t →
    mark_in (map held_mark held.on) t ≡ MustOn → on_in g s t ≡ true
must_on_is g held s same zero p e = absurd (let a = p.from_one in omega (arith, a))
must_on_is g held s same (suc k) p e =
    let len = ap length same in
    let last = p.to_last in
    ap (λ (on : List Bool). slice_index_or on k false) same ∙
    on_from_mark (slice_index_or held.on k false) (sym (mark_at held.on k (omega (arith, len, last))) ∙ e)

must_off_is : (g : ThermalUnit) (held s : Schedule) → s.on ≡ held.on → (t : ℕ) → IsPeriod s t →
    mark_in (map held_mark held.on) t ≡ MustOff → on_in g s t ≡ false
must_off_is g held s same zero p e = absurd (let a = p.from_one in omega (arith, a))
must_off_is g held s same (suc k) p e =
    let len = ap length same in
    let last = p.to_last in
    ap (λ (on : List Bool). slice_index_or on k false) same ∙
    off_from_mark (slice_index_or held.on k false) (sym (mark_at held.on k (omega (arith, len, last))) ∙ e)

-- the state of a schedule is told by its flags
on_same : (g : ThermalUnit) (a b : Schedule) → a.on ≡ b.on → (t : ℕ) → on_in g a t ≡ on_in g b t
on_same g a b e zero = refl
on_same g a b e (suc k) = ap (λ (on : List Bool). slice_index_or on k false) e

pub held_feasible : (g : ThermalUnit) (n : ℕ) (held s : Schedule) → IsThermalFeasible g n s → s.on ≡ held.on →
    IsThermalFeasible (held_unit g held) n s
held_feasible g n held s h same = record {
  schedule = h.schedule;
  commitment = record {
    must_run = h.commitment.must_run;
    stays_on = h.commitment.stays_on;
    stays_off = h.commitment.stays_off;
    min_up = h.commitment.min_up;
    min_down = h.commitment.min_down;
    must_on = must_on_is g held s same;
    must_off = must_off_is g held s same;
  };
  dispatch = record {
    least = h.dispatch.least;
    greatest = h.dispatch.greatest;
    start = h.dispatch.start;
    stop = h.dispatch.stop;
    stop_at_once = h.dispatch.stop_at_once;
    ramp_up = h.dispatch.ramp_up;
    ramp_down = h.dispatch.ramp_down;
  };
}

same_flags : (xs ys : List Bool) → length xs ≡ length ys →
    ((k : ℕ) → k < length xs → slice_index_or xs k false ≡ slice_index_or ys k false) → xs ≡ ys
same_flags [] [] e h = refl
same_flags [] (y ∷ ys) e h = absurd (omega (arith, e))
same_flags (x ∷ xs) [] e h = absurd (omega (arith, e))
same_flags (x ∷ xs) (y ∷ ys) e h = ap (λ (b : Bool). b ∷ xs) (h 0 (omega arith)) ∙
    ap (λ (bs : List Bool). y ∷ bs) (same_flags xs ys (omega (arith, e)) (λ k lt. h (suc k) (omega (arith, lt))))

-- a flag that the mark for b asks for is b
flag_is : (b x : Bool) → (held_mark b ≡ MustOn → x ≡ true) → (held_mark b ≡ MustOff → x ≡ false) → x ≡ b
flag_is true x on off = on refl
flag_is false x on off = off refl

held_flags : (g : ThermalUnit) (n : ℕ) (held s : Schedule) → length held.on ≡ n →
    IsThermalFeasible (held_unit g held) n s → s.on ≡ held.on
held_flags g n held s len h =
    let count = h.schedule.on in
    same_flags s.on held.on (count ∙ sym len) (λ k lt.
    let period : IsPeriod s (suc k) = record { from_one = omega arith; to_last = omega (arith, lt) } in
    let mark = mark_at held.on k (omega (arith, lt, len, count)) in
    flag_is (slice_index_or held.on k false) (slice_index_or s.on k false)
    (λ e. h.commitment.must_on (suc k) period (mark ∙ e)) (λ e. h.commitment.must_off (suc k) period (mark ∙ e)))

period_of : (s held : Schedule) → s.on ≡ held.on → (t : ℕ) → IsPeriod s t → IsPeriod held t
period_of s held same t p =
    let a = p.from_one in
    let b = p.to_last in
    let len = ap length same in
    record { from_one = a; to_last = omega (arith, b, len) }

pub given_feasible : (g : ThermalUnit) (n : ℕ) (held s : Schedule) → IsThermalFeasible g n held →
    IsThermalFeasible (held_unit g held) n s → IsThermalFeasible g n s
given_feasible g n held s own h =
    let same = held_flags g n held s own.schedule.on h in
    record {
      schedule = h.schedule;
      commitment = record {
        must_run = h.commitment.must_run;
        stays_on = h.commitment.stays_on;
        stays_off = h.commitment.stays_off;
        min_up = h.commitment.min_up;
        min_down = h.commitment.min_down;
        must_on = λ t p e. on_same g s held same t ∙ own.commitment.must_on t (period_of s held same t p) e;
        must_off = λ t p e. on_same g s held same t ∙ own.commitment.must_off t (period_of s held same t p) e;
      };
      dispatch = record {
        least = h.dispatch.least;
        greatest = h.dispatch.greatest;
        start = h.dispatch.start;
        stop = h.dispatch.stop;
        stop_at_once = h.dispatch.stop_at_once;
        ramp_up = h.dispatch.ramp_up;
        ramp_down = h.dispatch.ramp_down;
      };
    }

pub held_are_those : (g : ThermalUnit) (n : ℕ) (held s : Schedule) → IsThermalFeasible g n held →
    (IsThermalFeasible (held_unit g held) n s → IsThermalFeasible g n s × (s.on ≡ held.on)) ×
    (IsThermalFeasible g n s × (s.on ≡ held.on) → IsThermalFeasible (held_unit g held) n s)
held_are_those g n held s own = (
  λ h. (given_feasible g n held s own h, held_flags g n held s own.schedule.on h),
  λ p. held_feasible g n held s p.0 p.1,
)
