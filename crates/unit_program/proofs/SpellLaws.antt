-- Runs of on periods of a schedule, by single steps: their dispatch, costs and times.
use Rattle.unit_program.proofs.Common.{◌≡◌, ℕ, zero, suc, ◌-◌, ◌<◌, ◌≤◌, true, false, not, inl, inr, pos, ◌+ℤ◌}
use Rattle.unit_program.proofs.Common.{◌≤ℤ◌, ap, arith, signed, IsTrue, IsFalse, cases_Bool, and_from}
use Rattle.unit_program.proofs.Common.{ThermalUnit, PriceLists, Schedule, on_in, above_min, reserve_in, cap_of}
use Rattle.unit_program.proofs.Common.{starts_in, stops_in, time_down, IsThermalFeasible, start_cost_of}
use Rattle.unit_program.proofs.Common.{over_min, IsDispatch, net_cost, on_time, off_time, period_cost}

module _ (g : ThermalUnit) (s : Schedule) where
  pub above-on : (t : ℕ) → IsTrue (on_in g s t) → above_min g s t ≡ over_min g s t
  above-on zero on = rw on
  above-on (suc k) on = rw on

  pub above-off : (t : ℕ) → IsFalse (on_in g s t) → above_min g s t ≡ pos 0
  above-off zero off = rw off
  above-off (suc k) off = rw off

  starts_at : (k : ℕ) → IsFalse (on_in g s k) → IsTrue (on_in g s (suc k)) → IsTrue (starts_in g s (suc k))
  starts_at k off on = and_from _ _ (ap not off) on

  stops_at : (k : ℕ) → IsTrue (on_in g s k) → IsFalse (on_in g s (suc k)) → IsTrue (stops_in g s (suc k))
  stops_at k on off = and_from _ _ on (ap not off)

  -- a run of on periods that is off before it, or goes on from before the horizon
  pub record IsRun (first last : ℕ) : Type 0 where
    pub order : first ≤ last
    pub on : (k : ℕ) → first ≤ k → k ≤ last → IsTrue (on_in g s k)
    pub before : (k : ℕ) → first ≡ suc k → IsFalse (on_in g s k)

  module _ {n first last : ℕ} (right : IsThermalFeasible g n s) (run : IsRun first last) (end : last ≤ n)
      (after : last < n → IsFalse (on_in g s (suc last))) where
    here : (t : ℕ) → first ≤ t → t ≤ last → above_min g s t ≡ over_min g s t
    here t from low = above-on t (run.on t from low)

    begins : (k : ℕ) → first ≡ suc k → ((over_min g s first +ℤ reserve_in s first) ≤ℤ cap_of g true false) ×
        ((over_min g s first +ℤ reserve_in s first) ≤ℤ g.ramp_up)
    begins k is =
        let long = right.schedule.on in
        let order = run.order in
        let on = run.on (suc k) (omega arith) (omega arith) in
        let level = above-on (suc k) on in
        let none = above-off k (run.before k is) in
        let start = right.dispatch.start (suc k) (omega arith) (starts_at k (run.before k is) on) in
        let up = right.dispatch.ramp_up k (omega arith) in
        rw is (omega signed, omega signed)

    -- its powers and reserves are a dispatch of its spell
    pub dispatch_of_run : IsDispatch g n first last s
    dispatch_of_run =
        let d = right.dispatch in
        let long = right.schedule.on in
        let order = run.order in
        record {
          least = λ t one from low.
              let e = here t from low in
              let h = d.least t (omega arith) (run.on t from low) in
              omega signed;
          greatest = λ t one from low.
              let e = here t from low in
              let h = d.greatest t (omega arith) (run.on t from low) in
              omega signed;
          start = λ one. (begins (first - 1) (omega arith)).0;
          enter = λ one. (begins (first - 1) (omega arith)).1;
          ramp_up = λ k from low.
              let a = here k from (omega arith) in
              let b = here (suc k) (omega arith) low in
              let h = d.ramp_up k (omega arith) in
              omega signed;
          ramp_down = λ k from low.
              let a = here k from (omega arith) in
              let b = here (suc k) (omega arith) low in
              let h = d.ramp_down k (omega arith) in
              omega signed;
          stop = λ inside one.
              let a = here last order (omega arith) in
              let stops = stops_at last (run.on last order (omega arith)) (after inside) in
              let h = d.stop last (omega arith) (omega arith) stops in
              omega signed;
          leave = λ inside.
              let a = here last order (omega arith) in
              let b = above-off (suc last) (after inside) in
              let h = d.ramp_down last (omega arith) in
              omega signed;
          stop_at_once = λ inside none.
              let stops = stops_at last (run.on last order (omega arith)) (after inside) in
              d.stop_at_once (omega arith) (rw none at stops);
          leave_at_once = λ inside none.
              let a = here last order (omega arith) in
              let b = above-off (suc last) (after inside) in
              let h = d.ramp_up last (omega arith) in
              omega signed;
        }

-- ---- what a period adds

module _ (g : ThermalUnit) (π : PriceLists) (s : Schedule) where
  pub period_cost-stay : (k : ℕ) → IsTrue (on_in g s k) → IsTrue (on_in g s (suc k)) →
      period_cost g π s k ≡ net_cost g π s (suc k)
  period_cost-stay k before on = rw (before, on) (omega signed)

  pub period_cost-start : (k : ℕ) → IsFalse (on_in g s k) → IsTrue (on_in g s (suc k)) →
      period_cost g π s k ≡ net_cost g π s (suc k) +ℤ start_cost_of g.lags (time_down g s k)
  period_cost-start k before on = rw (before, on)

  pub period_cost-off : (k : ℕ) → IsFalse (on_in g s (suc k)) → period_cost g π s k ≡ pos 0
  period_cost-off k off =
      elim (cases_Bool (on_in g s k)) [ inl before ↦ rw (before, off) | inr before ↦ rw (before, off) ]

-- ---- times on and off

module _ (g : ThermalUnit) where
  pub on_time-more : (f t : ℕ) → f ≤ t → on_time g f (suc t) ≡ suc (on_time g f t)
  on_time-more zero t order = omega arith
  on_time-more (suc k) t order = omega arith

  module _ (s : Schedule) where
    pub off_time-first : (l : ℕ) → IsTrue (on_in g s l) → off_time g l (suc l) ≡ 1
    off_time-first zero on = rw on
    off_time-first (suc l) on = omega arith

    pub off_time-same : (l : ℕ) → IsTrue (on_in g s l) → off_time g l l ≡ 0
    off_time-same zero on = rw on
    off_time-same (suc l) on = omega arith

    pub time_down-on : (t : ℕ) → IsTrue (on_in g s t) → time_down g s t ≡ 0
    time_down-on zero on = rw on
    time_down-on (suc k) on = rw on

    pub time_down-more : (k : ℕ) → IsFalse (on_in g s (suc k)) → time_down g s (suc k) ≡ suc (time_down g s k)
    time_down-more k off = rw off
