-- The commitment rules hold exactly where each step keeps them.
use Rattle.unit_program.proofs.Common.{◌≡◌, ℕ, zero, suc, ◌+◌, ◌<◌, ◌≤◌, Bool, not, inl, inr, length, ap}
use Rattle.unit_program.proofs.Common.{arith, IsTrue, IsFalse, cases_Bool, MustOff, MustOn, ThermalUnit, Schedule}
use Rattle.unit_program.proofs.Common.{on_in}
use Rattle.unit_program.proofs.Common.{starts_in, stops_in, time_down, IsPeriod, KeepsCommitment, mark_in, IsStep}
use Rattle.unit_program.proofs.Common.{held, not-true, not-false, and_parts, and_from}
use Rattle.unit_program.proofs.RunLaws.{KeepsTimes, ends_late, keeps_times}

module _ (g : ThermalUnit) (s : Schedule) where
  abbrev on : ℕ → Bool
  on t = on_in g s t

  abbrev off : ℕ → Bool
  off t = not (on_in g s t)

  abbrev end : ℕ
  end = length s.on

  -- the time down is the time that `off` has held
  time_down-held : (k : ℕ) → time_down g s k ≡ held off g.down0 k
  time_down-held zero = elim (cases_Bool g.on0) [ inl here ↦ rw here | inr here ↦ rw here ]
  time_down-held (suc k) = elim (cases_Bool (on (suc k))) [
    | inl here ↦ rw here
    | inr here ↦ rw here (ap suc (time_down-held k))
  ]

  ups : KeepsCommitment g s → KeepsTimes on g.up0 g.min_up end
  ups h = record {
    begins = λ on0 t one low within. h.stays_on on0 t (omega arith) within;
    runs = λ k t before after order within low.
        h.min_up (suc k) t (and_from _ _ (ap not before) after) order within (omega arith);
  }

  downs : KeepsCommitment g s → KeepsTimes off g.down0 g.min_down end
  downs h = record {
    begins = λ off0 t one low within. ap not (h.stays_off (not-true g.on0 off0) t (omega arith) within);
    runs = λ k t before after order within low. ap not
        (h.min_down (suc k) t (and_from _ _ (not-false (on k) before) after) order within (omega arith));
  }

  pub steps_from_rules : KeepsCommitment g s → (k : ℕ) → k < end → IsStep g s k
  steps_from_rules h k low = record {
    must_run = λ must. h.must_run must (suc k) (omega arith);
    stop = λ here after. ends_late on g.up0 g.min_up end (ups h) k low here after;
    start = λ here after.
        let late = ends_late off g.down0 g.min_down end (downs h) k low (ap not here) (ap not after) in
        let down = time_down-held k in
        omega arith;
    must_on = λ mark. h.must_on (suc k) (omega arith) mark;
    must_off = λ mark. h.must_off (suc k) (omega arith) mark;
  }

  module _ (steps : (k : ℕ) → k < end → IsStep g s k) where
    up_times : KeepsTimes on g.up0 g.min_up end
    up_times = keeps_times on g.up0 g.min_up end (λ k low here after. (steps k low).stop here after)

    down_times : KeepsTimes off g.down0 g.min_down end
    down_times = keeps_times off g.down0 g.min_down end (λ k low here after.
        let least = (steps k low).start (not-true (on k) here) (not-false (on (suc k)) after) in
        let down = time_down-held k in
        omega arith)

    step_of : (P : ℕ → Type 0) → ((k : ℕ) → k < end → P (suc k)) → (t : ℕ) → IsPeriod s t → P t
    step_of P f zero period = absurd (omega arith)
    step_of P f (suc k) period = f k (omega arith)

    rule_up : (start t : ℕ) → IsTrue (starts_in g s start) → start ≤ t → t < start + g.min_up → IsPeriod s t →
        IsTrue (on_in g s t)
    rule_up zero t starts order within period = cc
    rule_up (suc k) t starts order within period =
        let p = and_parts (off k) (on (suc k)) starts in
        up_times.runs k t (not-true (on k) p.0) p.1 order within period.to_last

    rule_down : (stop t : ℕ) → IsTrue (stops_in g s stop) → stop ≤ t → t < stop + g.min_down → IsPeriod s t →
        IsFalse (on_in g s t)
    rule_down zero t stops order within period = cc
    rule_down (suc k) t stops order within period =
        let p = and_parts (on k) (off (suc k)) stops in
        not-true (on t) (down_times.runs k t (ap not p.0) p.1 order within period.to_last)

    pub rules_from_steps : KeepsCommitment g s
    rules_from_steps = record {
      must_run = λ must. step_of (λ t. IsTrue (on t)) (λ k low. (steps k low).must_run must);
      stays_on = λ on0 t period within. up_times.begins on0 t period.from_one period.to_last within;
      stays_off = λ off0 t period within.
          not-true (on t) (down_times.begins (ap not off0) t period.from_one period.to_last within);
      min_up = rule_up;
      min_down = rule_down;
      must_on = step_of (λ t. mark_in g.window t ≡ MustOn → IsTrue (on t)) (λ k low. (steps k low).must_on);
      must_off = step_of (λ t. mark_in g.window t ≡ MustOff → IsFalse (on t)) (λ k low. (steps k low).must_off);
    }
