-- Whether a schedule is feasible is decided, rule by rule.
use Rattle.right_report.proofs.Common.{◌≡◌, ℕ, suc, ◌+◌, ◌-◌, ◌<◌, ◌≤◌, ℤ, pos, ◌-ℤ◌, ◌≤ℤ◌, false, true, length, refl}
use Rattle.right_report.proofs.Common.{arith, IsTrue, IsFalse, slice_index, slice_index_or, ThermalUnit, RenewableUnit}
use Rattle.right_report.proofs.Common.{BidUnit, AnyUnit, Thermal, Flat, Bid, Schedule, on_in, above_min}
use Rattle.right_report.proofs.Common.{above_with_reserve, starts_in, stops_in, mark_in, cap_of, width_of, blocks_at}
use Rattle.right_report.proofs.Common.{IsPeriod, KeepsCommitment, KeepsDispatch, IsSchedule, IsThermalFeasible}
use Rattle.right_report.proofs.Common.{IsRenewableFeasible, IsBidFeasible, IsFeasible, int_at}
use Rattle.std.specs.Int.{int_min}
use native.Mathlib.Decide.{dec_le, dec_lt, ℕ_discrete}
use Rattle.uc_model.specs.declared.units.Mark.{Mark}
use Rattle.uc_model.specs.declared.units.Mark.TheVariants.{Free, MustOff, MustOn}
use Rattle.right_report.proofs.Deciding.{both, implies, restated, true_or_not, false_or_not, at_most_or_not, each_below}

must_on_or_not : (m : Mark) → Dec (m ≡ MustOn)
must_on_or_not Free = no (λ e. cc)
must_on_or_not MustOff = no (λ e. cc)
must_on_or_not MustOn = yes refl

must_off_or_not : (m : Mark) → Dec (m ≡ MustOff)
must_off_or_not Free = no (λ e. cc)
must_off_or_not MustOff = yes refl
must_off_or_not MustOn = no (λ e. cc)

period_or_not : (s : Schedule) (t : ℕ) → Dec (IsPeriod s t)
period_or_not s t = restated (both (dec_le 1 t) (dec_le t (length s.on)))
    (λ h. record { from_one = h.0; to_last = h.1 }) (λ p. (p.from_one, p.to_last))

-- what is decided of each number is so of all periods
each_period : (s : Schedule) (P : ℕ → Type 0) → ((t : ℕ) → Dec (P t)) → Dec ((t : ℕ) → IsPeriod s t → P t)
each_period s P decide =
    restated (each_below (λ t. IsPeriod s t → P t) (λ t. implies (period_or_not s t) (decide t)) (suc (length s.on)))
    (λ h t p. let last = p.to_last in h t (omega (arith, last)) p)
    (λ h t low. h t)

-- the same of periods k + 1
each_place : (s : Schedule) (P : ℕ → Type 0) → ((k : ℕ) → Dec (P k)) → Dec ((k : ℕ) → IsPeriod s (suc k) → P k)
each_place s P decide =
    restated (each_below (λ k. IsPeriod s (suc k) → P k) (λ k. implies (period_or_not s (suc k)) (decide k))
    (length s.on))
    (λ h k p. let last = p.to_last in h k (omega (arith, last)) p)
    (λ h k low. h k)

-- ---- commitment

module _ (g : ThermalUnit) (s : Schedule) where
  abbrev IsOn : ℕ → Type 0
  IsOn t = IsTrue (on_in g s t)

  abbrev IsOff : ℕ → Type 0
  IsOff t = IsFalse (on_in g s t)

  on_or_not : (t : ℕ) → Dec (IsOn t)
  on_or_not t = true_or_not (on_in g s t)

  off_or_not : (t : ℕ) → Dec (IsOff t)
  off_or_not t = false_or_not (on_in g s t)

  abbrev StaysUp : ℕ → ℕ → Type 0
  StaysUp t start = IsTrue (starts_in g s start) → start ≤ t → t < start + g.min_up → IsOn t

  abbrev StaysDown : ℕ → ℕ → Type 0
  StaysDown t stop = IsTrue (stops_in g s stop) → stop ≤ t → t < stop + g.min_down → IsOff t

  stays_up : Dec ((start t : ℕ) → IsTrue (starts_in g s start) → start ≤ t → t < start + g.min_up → IsPeriod s t →
      IsOn t)
  stays_up =
      restated
      (each_period s (λ t. (start : ℕ) → start < suc t → StaysUp t start)
      (λ t. each_below (StaysUp t) (λ start. implies (true_or_not (starts_in g s start))
      (implies (dec_le start t) (implies (dec_lt t (start + g.min_up)) (on_or_not t)))) (suc t)))
      (λ h start t starts from to p. h t p start (omega (arith, from)) starts from to)
      (λ h t p start low starts from to. h start t starts from to p)

  stays_down : Dec ((stop t : ℕ) → IsTrue (stops_in g s stop) → stop ≤ t → t < stop + g.min_down → IsPeriod s t →
      IsOff t)
  stays_down =
      restated
      (each_period s (λ t. (stop : ℕ) → stop < suc t → StaysDown t stop)
      (λ t. each_below (StaysDown t) (λ stop. implies (true_or_not (stops_in g s stop))
      (implies (dec_le stop t) (implies (dec_lt t (stop + g.min_down)) (off_or_not t)))) (suc t)))
      (λ h stop t stops from to p. h t p stop (omega (arith, from)) stops from to)
      (λ h t p stop low stops from to. h stop t stops from to p)

  must_run : Dec (IsTrue g.must_run → (t : ℕ) → IsPeriod s t → IsOn t)
  must_run = implies (true_or_not g.must_run) (each_period s IsOn on_or_not)

  stays_on : Dec (IsTrue g.on0 → (t : ℕ) → IsPeriod s t → t ≤ g.min_up - g.up0 → IsOn t)
  stays_on = implies (true_or_not g.on0)
      (each_period s (λ t. t ≤ g.min_up - g.up0 → IsOn t) (λ t. implies (dec_le t (g.min_up - g.up0)) (on_or_not t)))

  stays_off : Dec (IsFalse g.on0 → (t : ℕ) → IsPeriod s t → t ≤ g.min_down - g.down0 → IsOff t)
  stays_off = implies (false_or_not g.on0)
      (each_period s (λ t. t ≤ g.min_down - g.down0 → IsOff t)
      (λ t. implies (dec_le t (g.min_down - g.down0)) (off_or_not t)))

  must_on : Dec ((t : ℕ) → IsPeriod s t → mark_in g.window t ≡ MustOn → IsOn t)
  must_on = each_period s (λ t. mark_in g.window t ≡ MustOn → IsOn t)
      (λ t. implies (must_on_or_not (mark_in g.window t)) (on_or_not t))

  must_off : Dec ((t : ℕ) → IsPeriod s t → mark_in g.window t ≡ MustOff → IsOff t)
  must_off = each_period s (λ t. mark_in g.window t ≡ MustOff → IsOff t)
      (λ t. implies (must_off_or_not (mark_in g.window t)) (off_or_not t))

  commitment : Dec (KeepsCommitment g s)
  commitment =
      restated (both must_run
      (both stays_on (both stays_off (both stays_up (both stays_down (both must_on must_off))))))
      (λ h. record {
        must_run = h.0;
        stays_on = h.1.0;
        stays_off = h.1.1.0;
        min_up = h.1.1.1.0;
        min_down = h.1.1.1.1.0;
        must_on = h.1.1.1.1.1.0;
        must_off = h.1.1.1.1.1.1;
      })
      (λ c. (c.must_run, (c.stays_on, (c.stays_off, (c.min_up, (c.min_down, (c.must_on, c.must_off)))))))

  -- ---- dispatch

  least : Dec ((t : ℕ) → IsPeriod s t → IsOn t → pos 0 ≤ℤ above_min g s t)
  least = each_period s (λ t. IsOn t → pos 0 ≤ℤ above_min g s t)
      (λ t. implies (on_or_not t) (at_most_or_not (pos 0) (above_min g s t)))

  greatest : Dec ((t : ℕ) → IsPeriod s t → IsOn t → above_with_reserve g s t ≤ℤ cap_of g false false)
  greatest =
      each_period s (λ t. IsOn t → above_with_reserve g s t ≤ℤ cap_of g false false)
      (λ t. implies (on_or_not t) (at_most_or_not (above_with_reserve g s t) (cap_of g false false)))

  start : Dec ((t : ℕ) → IsPeriod s t → IsTrue (starts_in g s t) → above_with_reserve g s t ≤ℤ cap_of g true false)
  start =
      each_period s (λ t. IsTrue (starts_in g s t) → above_with_reserve g s t ≤ℤ cap_of g true false)
      (λ t. implies (true_or_not (starts_in g s t)) (at_most_or_not (above_with_reserve g s t) (cap_of g true false)))

  stop : Dec ((t : ℕ) → IsPeriod s t → IsPeriod s (suc t) → IsTrue (stops_in g s (suc t)) →
      above_with_reserve g s t ≤ℤ cap_of g false true)
  stop =
      each_period s (λ t. IsPeriod s (suc t) → IsTrue (stops_in g s (suc t)) →
      above_with_reserve g s t ≤ℤ cap_of g false true)
      (λ t. implies (period_or_not s (suc t))
      (implies (true_or_not (stops_in g s (suc t)))
      (at_most_or_not (above_with_reserve g s t) (cap_of g false true))))

  stop_at_once : Dec (IsPeriod s 1 → IsTrue (stops_in g s 1) → g.power0 ≤ℤ int_min g.stop_limit g.max_power)
  stop_at_once = implies (period_or_not s 1)
      (implies (true_or_not (stops_in g s 1)) (at_most_or_not g.power0 (int_min g.stop_limit g.max_power)))

  ramp_up : Dec ((k : ℕ) → IsPeriod s (suc k) → (above_with_reserve g s (suc k) -ℤ above_min g s k) ≤ℤ g.ramp_up)
  ramp_up =
      each_place s (λ k. (above_with_reserve g s (suc k) -ℤ above_min g s k) ≤ℤ g.ramp_up)
      (λ k. at_most_or_not (above_with_reserve g s (suc k) -ℤ above_min g s k) g.ramp_up)

  ramp_down : Dec ((k : ℕ) → IsPeriod s (suc k) → (above_min g s k -ℤ above_min g s (suc k)) ≤ℤ g.ramp_down)
  ramp_down =
      each_place s (λ k. (above_min g s k -ℤ above_min g s (suc k)) ≤ℤ g.ramp_down)
      (λ k. at_most_or_not (above_min g s k -ℤ above_min g s (suc k)) g.ramp_down)

  dispatch : Dec (KeepsDispatch g s)
  dispatch =
      restated (both least (both greatest (both start (both stop (both stop_at_once (both ramp_up ramp_down))))))
      (λ h. record {
        least = h.0;
        greatest = h.1.0;
        start = h.1.1.0;
        stop = h.1.1.1.0;
        stop_at_once = h.1.1.1.1.0;
        ramp_up = h.1.1.1.1.1.0;
        ramp_down = h.1.1.1.1.1.1;
      })
      (λ d. (d.least, (d.greatest, (d.start, (d.stop, (d.stop_at_once, (d.ramp_up, d.ramp_down)))))))

-- ---- each kind of unit

module _ (n : ℕ) (s : Schedule) where
  abbrev GivesNothing : ℕ → Type 0
  GivesNothing k = (slice_index s.power k ≡ 0) × (slice_index s.reserve k ≡ 0)

  schedule : Dec (IsSchedule n s)
  schedule =
      restated
      (both (ℕ_discrete (length s.on) n) (both (ℕ_discrete (length s.power) n) (both (ℕ_discrete (length s.reserve) n)
      (each_below (λ k. IsFalse (slice_index_or s.on k false) → GivesNothing k)
      (λ k. implies (false_or_not (slice_index_or s.on k false))
      (both (ℕ_discrete (slice_index s.power k) 0) (ℕ_discrete (slice_index s.reserve k) 0))) n))))
      (λ h. record { on = h.0; power = h.1.0; reserve = h.1.1.0; off = h.1.1.1 })
      (λ i. (i.on, (i.power, (i.reserve, i.off))))

  always_on : Dec ((k : ℕ) → k < n → IsTrue (slice_index_or s.on k false))
  always_on = each_below (λ k. IsTrue (slice_index_or s.on k false)) (λ k. true_or_not (slice_index_or s.on k false)) n

  no_reserve : Dec ((k : ℕ) → k < n → slice_index s.reserve k ≡ 0)
  no_reserve = each_below (λ k. slice_index s.reserve k ≡ 0) (λ k. ℕ_discrete (slice_index s.reserve k) 0) n

  at_least : (low : ℕ → ℤ) → Dec ((k : ℕ) → k < n → low k ≤ℤ pos (slice_index s.power k))
  at_least low = each_below (λ k. low k ≤ℤ pos (slice_index s.power k))
      (λ k. at_most_or_not (low k) (pos (slice_index s.power k))) n

  at_most : (high : ℕ → ℤ) → Dec ((k : ℕ) → k < n → pos (slice_index s.power k) ≤ℤ high k)
  at_most high = each_below (λ k. pos (slice_index s.power k) ≤ℤ high k)
      (λ k. at_most_or_not (pos (slice_index s.power k)) (high k)) n

  thermal : (g : ThermalUnit) → Dec (IsThermalFeasible g n s)
  thermal g =
      restated (both schedule (both (commitment g s) (dispatch g s)))
      (λ h. record { schedule = h.0; commitment = h.1.0; dispatch = h.1.1 })
      (λ f. (f.schedule, (f.commitment, f.dispatch)))

  renewable : (r : RenewableUnit) → Dec (IsRenewableFeasible r n s)
  renewable r =
      restated (both schedule
      (both always_on (both no_reserve (both (at_least (int_at r.least)) (at_most (int_at r.most))))))
      (λ h. record { schedule = h.0; on = h.1.0; reserve = h.1.1.0; least = h.1.1.1.0; most = h.1.1.1.1 })
      (λ f. (f.schedule, (f.on, (f.reserve, (f.least, f.most)))))

  bid : (b : BidUnit) → Dec (IsBidFeasible b n s)
  bid b =
      restated (both schedule (both always_on (both no_reserve (at_most (λ k. width_of (blocks_at b k))))))
      (λ h. record { schedule = h.0; on = h.1.0; reserve = h.1.1.0; most = h.1.1.1 })
      (λ f. (f.schedule, (f.on, (f.reserve, f.most))))

pub feasible_or_not : (u : AnyUnit) (n : ℕ) (s : Schedule) → Dec (IsFeasible u n s)
feasible_or_not (Thermal g) n s = thermal n s g
feasible_or_not (Flat r) n s = renewable n s r
feasible_or_not (Bid b) n s = bid n s b
