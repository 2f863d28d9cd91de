-- A schedule is feasible exactly where each period keeps the rules.
use Rattle.test_tiny.proofs.Common.{◌≡◌, ℕ, zero, suc, ◌+◌, ◌-◌, ◌<◌, ◌≤◌, pos, ◌≤ℤ◌, true, false, length, arith, ◌∙◌}
use Rattle.test_tiny.proofs.Common.{IsTrue, IsFalse, ThermalUnit, Schedule, AreOneLength, on_in, starts_in, stops_in}
use Rattle.test_tiny.proofs.Common.{mark_in, above_min, above_with_reserve, cap_of, IsPeriod, IsThermalFeasible}
use Rattle.test_tiny.proofs.Common.{KeepsRules, MayStopAtOnce}
use Rattle.uc_model.specs.declared.units.Mark.TheVariants.{MustOff, MustOn}

-- a period is the one at some place
at_place : (P : ℕ → Type 0) (s : Schedule) → ((k : ℕ) → k < length s.on → P (suc k)) → (t : ℕ) → IsPeriod s t → P t
at_place P s h zero p = absurd (omega (arith, p.from_one))
at_place P s h (suc k) p = h k (omega (arith, p.to_last))

period_at : (s : Schedule) (k : ℕ) → k < length s.on → IsPeriod s (suc k)
period_at s k low = record { from_one = omega arith; to_last = omega arith }

module _ (g : ThermalUnit) (s : Schedule) (n : ℕ) where
  up_after : KeepsRules g s → (start t : ℕ) → IsTrue (starts_in g s start) → start ≤ t → t < start + g.min_up →
      IsPeriod s t → IsTrue (on_in g s t)
  up_after h zero t starts from to p = let bad : false ≡ true = starts in cc
  up_after h (suc k) zero starts from to p = absurd (omega (arith, from))
  up_after h (suc k) (suc j) starts from to p =
      let last = p.to_last in
      (h k (omega (arith, from, last))).commitment.min_up starts j (omega (arith, from)) (omega (arith, to))
      (omega (arith, last))

  down_after : KeepsRules g s → (stop t : ℕ) → IsTrue (stops_in g s stop) → stop ≤ t → t < stop + g.min_down →
      IsPeriod s t → IsFalse (on_in g s t)
  down_after h zero t stops from to p = let bad : false ≡ true = stops in cc
  down_after h (suc k) zero stops from to p = absurd (omega (arith, from))
  down_after h (suc k) (suc j) stops from to p =
      let last = p.to_last in
      (h k (omega (arith, from, last))).commitment.min_down stops j (omega (arith, from)) (omega (arith, to))
      (omega (arith, last))

  pub feasible_by_places : AreOneLength s → length s.on ≡ n → MayStopAtOnce g s → KeepsRules g s →
      IsThermalFeasible g n s
  feasible_by_places same long stop h = record {
    schedule = record {
      on = long;
      power = same.power ∙ long;
      reserve = same.reserve ∙ long;
      off = λ k low. (h k (omega (arith, low, long))).dispatch.off;
    };
    commitment = record {
      must_run = λ m. at_place (λ t. IsTrue (on_in g s t)) s (λ k low. (h k low).commitment.must_run m);
      stays_on = λ on t p. at_place (λ t. t ≤ g.min_up - g.up0 → IsTrue (on_in g s t)) s
          (λ k low. (h k low).commitment.stays_on on) t p;
      stays_off = λ off t p. at_place (λ t. t ≤ g.min_down - g.down0 → IsFalse (on_in g s t)) s
          (λ k low. (h k low).commitment.stays_off off) t p;
      min_up = up_after h;
      min_down = down_after h;
      must_on = λ t p. at_place (λ t. mark_in g.window t ≡ MustOn → IsTrue (on_in g s t)) s
          (λ k low. (h k low).commitment.must_on) t p;
      must_off = λ t p. at_place (λ t. mark_in g.window t ≡ MustOff → IsFalse (on_in g s t)) s
          (λ k low. (h k low).commitment.must_off) t p;
    };
    dispatch = record {
      least = λ t p. at_place (λ t. IsTrue (on_in g s t) → pos 0 ≤ℤ above_min g s t) s
          (λ k low. (h k low).dispatch.least) t p;
      greatest = λ t p. at_place (λ t. IsTrue (on_in g s t) → above_with_reserve g s t ≤ℤ cap_of g false false) s
          (λ k low. (h k low).dispatch.greatest) t p;
      start = λ t p. at_place (λ t. IsTrue (starts_in g s t) → above_with_reserve g s t ≤ℤ cap_of g true false) s
          (λ k low. (h k low).dispatch.start) t p;
      stop = λ t p. at_place (λ t. IsPeriod s (suc t) → IsTrue (stops_in g s (suc t)) →
          above_with_reserve g s t ≤ℤ cap_of g false true) s (λ k low. (h k low).dispatch.stop) t p;
      stop_at_once = stop;
      ramp_up = λ k p. (h k (omega (arith, p.to_last))).dispatch.ramp_up;
      ramp_down = λ k p. (h k (omega (arith, p.to_last))).dispatch.ramp_down;
    };
  }

  pub places_keep_rules : IsThermalFeasible g n s → KeepsRules g s
  places_keep_rules h k low = record {
    commitment = record {
      must_run = λ m. h.commitment.must_run m (suc k) (period_at s k low);
      stays_on = λ on. h.commitment.stays_on on (suc k) (period_at s k low);
      stays_off = λ off. h.commitment.stays_off off (suc k) (period_at s k low);
      min_up = λ starts j from to last. h.commitment.min_up (suc k) (suc j) starts (omega (arith, from))
          (omega (arith, to)) (period_at s j last);
      min_down = λ stops j from to last. h.commitment.min_down (suc k) (suc j) stops (omega (arith, from))
          (omega (arith, to)) (period_at s j last);
      must_on = h.commitment.must_on (suc k) (period_at s k low);
      must_off = h.commitment.must_off (suc k) (period_at s k low);
    };
    dispatch = record {
      off = let e = h.schedule.on in h.schedule.off k (omega (arith, low, e));
      least = h.dispatch.least (suc k) (period_at s k low);
      greatest = h.dispatch.greatest (suc k) (period_at s k low);
      start = h.dispatch.start (suc k) (period_at s k low);
      stop = h.dispatch.stop (suc k) (period_at s k low);
      ramp_up = h.dispatch.ramp_up k (period_at s k low);
      ramp_down = h.dispatch.ramp_down k (period_at s k low);
    };
  }
