-- Backtracking: the periods that are written make, with what comes before them, a dispatch of least cost, the first of
-- those of that cost.
use Rattle.spell_run.proofs.Common
use Common.{signed, ◌≡◌, ℕ, zero, suc, ◌<◌, ◌≤◌, inl, inr, ℤ, pos, ◌+ℤ◌, ◌-ℤ◌, ◌≤ℤ◌, Bool, true, false, ◌&&◌, eqb}
use Common.{ltb, length, Some, refl, sym, ap, ◌∙◌, subst, arith, option_map, cases_lt, eq-eqb, ne_eqb, and_right}
use Common.{IsCostCurve, reserve_term, IsLeast, same_some, Table, value_of, Curve, ThermalUnit, PriceLists, Schedule}
use Common.{IsThermalUnit, ArePrices, power_in, reserve_in, int_at, IsFrontier, IsChosen, stops_at}
use Common.{HasSamePowersAfter, IsSameAfter, HasBestReserve, IsWayFrom, best_reserve, IsDispatch, net_cost_at}
use Common.{net_cost, spell_cost, cap_at, step_at, IsMove, level, IsRun, IsStepped}
use Rattle.spell_run.proofs.ReserveLaws.{best_may}
use Rattle.spell_run.proofs.RunLaws.{level_power, MovesIn, move_same, run_more, cost_more, reserve_not_negative}
use Rattle.spell_run.proofs.RunLaws.{move_parts, move_whole, dispatch_from_run, run_from_dispatch, end_from_dispatch}
use Rattle.spell_run.proofs.StepLaws.{step_sound, step_complete, net_of_best, net_at_least}
use Rattle.spell_run.proofs.SumLaws.{added}

-- ---- where a stop follows

and_true : (b : Bool) → (b && true) ≡ b
and_true true = refl
and_true false = refl

pub stops_before : (last periods k : ℕ) → suc k < last → stops_at last periods k ≡ false
stops_before last periods k h = and_right (ltb last periods) (eqb last (suc k))
    (ne_eqb last (suc k) (λ e. absurd (omega arith)))

pub stops_last : (periods k : ℕ) → stops_at (suc k) periods k ≡ ltb (suc k) periods
stops_last periods k = ap (λ b. ltb (suc k) periods && b) (eq-eqb (suc k) (suc k) refl) ∙
    and_true (ltb (suc k) periods)

-- ---- dispatches period by period

module _ {g : ThermalUnit} {periods first : ℕ} {d : Schedule} (unit : IsThermalUnit g) where
  -- what a dispatch does in period suc k, with the stop that follows
  pub move_of : (last : ℕ) {k : ℕ} → first ≤ suc k → suc k ≤ last → IsDispatch g periods first last d →
      MovesIn g first k (stops_at last periods k) d
  move_of zero from until dispatch = absurd (omega arith)
  move_of (suc m) {k = k} from until dispatch =
      let start : first ≤ suc m = omega arith in
      let run = run_from_dispatch unit start dispatch in
      elim (cases_lt (suc k) (suc m)) [
        | inl less ↦ rw (stops_before (suc m) periods k less) (run k from until)
        | inr most ↦
            let z : m ≡ k = omega arith in
            let whole = move_whole first (run m start (omega arith)) (end_from_dispatch unit start dispatch) in
            let stop = rw (← stops_last periods m) at whole in
            subst (λ j. MovesIn g first j (stops_at (suc m) periods j) d) z stop
      ]

  pub run_of : (last : ℕ) {k : ℕ} → first ≤ suc k → suc k ≤ last → IsDispatch g periods first last d → IsRun g first k d
  run_of zero from until dispatch = absurd (omega arith)
  run_of (suc m) from until dispatch = λ j low high.
      run_from_dispatch unit (omega arith) dispatch j low (omega arith)

-- ---- a period whose own power is found

-- with a move to power x in period suc k the later periods of d make a dispatch, and with the cheapest one of cost c
pub record IsOnward (g : ThermalUnit) (π : PriceLists) (first k last : ℕ) (h : Table) (d : Schedule) (x c : ℤ) : Type 0
  where
    pub value : ℤ
    pub there : value_of h x ≡ Some value
    pub completes : (run : Schedule) → IsRun g first k run → power_in run (suc k) ≡ x →
        MovesIn g first k (stops_at last (length π.energy) k) run → IsSameAfter (suc k) last d run →
        IsDispatch g (length π.energy) first last run ×
        (spell_cost g π first last run ≡ spell_cost g π first (suc k) run +ℤ (c -ℤ value)) × ((j : ℕ) → suc k ≤ j →
        j < last → HasBestReserve g π first last run j)
    pub least : (other : Schedule) → IsDispatch g (length π.energy) first last other →
        c ≤ℤ spell_cost g π first last other
    pub rest : (other : Schedule) → IsDispatch g (length π.energy) first last other →
        HasSamePowersAfter (suc k) last d other → power_in other (suc k) ≡ x →
        (spell_cost g π first (suc k) other +ℤ (c -ℤ value)) ≤ℤ spell_cost g π first last other
    pub first_here : (other : Schedule) → IsDispatch g (length π.energy) first last other →
        spell_cost g π first last other ≡ c → HasSamePowersAfter (suc k) last d other → x ≤ℤ power_in other (suc k)
    pub first_after : (other : Schedule) → IsDispatch g (length π.energy) first last other →
        spell_cost g π first last other ≡ c → (i : ℕ) → suc k ≤ i → i < last →
        HasSamePowersAfter (suc i) last d other → power_in d (suc i) ≤ℤ power_in other (suc i)

-- a period before the last one
pub onward_more : {g : ThermalUnit} {π : PriceLists} {first k last : ℕ} {h : Table} {d : Schedule} {x c : ℤ} →
    first ≤ suc k → suc k < last → IsWayFrom g π first (suc k) last h d x c → IsOnward g π first k last h d x c
onward_more {g = g} {π = π} {first = first} {k = k} {last = last} from low way = record {
  value = way.before;
  there = way.there;
  completes = λ run keeps power move same.
      let m = rw (stops_before last (length π.energy) k low) at move in
      way.completes run (run_more run keeps m) (level_power g first run k from ∙ power) same;
  least = way.least;
  rest = λ other dispatch same power. way.rest other dispatch same (level_power g first other k from ∙ power);
  first_here = λ other dispatch cost_is same.
      let a = way.first_before other dispatch cost_is same in
      let e = level_power g first other k from in
      omega signed;
  first_after = way.first_after;
}

module _ {g : ThermalUnit} {π : PriceLists} {first k : ℕ} {c : Curve} (unit : IsThermalUnit g) (prices : ArePrices π)
    (curve : IsCostCurve g.points c) (within : k < length π.energy) (from : first ≤ suc k) where
  abbrev T : ℕ
  T = length π.energy

  abbrev mu : ℤ
  mu = int_at π.reserve k

  price : pos 0 ≤ℤ mu
  price = (prices.reserve k (pos 0) (omega arith)).at_least

  -- ---- the last period

  module _ {f h : Table} (front : IsFrontier g π first k f)
      (step : IsStepped (step_at g π k (eqb first (suc k)) (stops_at (suc k) T k)) c f h) (d : Schedule) {x cost : ℤ}
      (is : IsLeast h cost x) where
    last_value : (other : Schedule) → IsDispatch g T first (suc k) other →
        (v : ℤ) × (value_of h (power_in other (suc k)) ≡ Some v) × (v ≤ℤ spell_cost g π first (suc k) other)
    last_value other dispatch =
        let b = front.complete other (run_of unit (suc k) from (omega arith) dispatch) in
        let s = step_complete π k unit price curve (eqb first (suc k)) (stops_at (suc k) T k) step b.1
        (move_of unit (suc k) from (omega arith) dispatch) (reserve_not_negative other k) in
        let more = cost_more g π first k other from in
        (s.0, s.1, omega signed)

    pub onward_end : IsOnward g π first k (suc k) h d x cost
    onward_end = record {
      value = cost;
      there = is.there;
      completes = λ run keeps power move same.
          let parts = move_parts first k T run (rw (stops_last T k) at move) in (
            dispatch_from_run run from (run_more run keeps parts.0) parts.1,
            omega signed,
            λ j low high. absurd (omega arith),
          );
      least = λ other dispatch.
          let l = last_value other dispatch in
          let a = is.least (power_in other (suc k)) l.0 l.1 in
          omega signed;
      rest = λ other dispatch same power. omega signed;
      first_here = λ other dispatch cost_is same.
          let l = last_value other dispatch in
          let a = is.least (power_in other (suc k)) l.0 l.1 in
          let e : l.0 ≡ cost = omega signed in
          is.first (power_in other (suc k)) (cc);
      first_after = λ other dispatch cost_is i low high same. absurd (omega arith);
    }

  -- ---- the power before it

  module _ {last : ℕ} (low : suc k ≤ last) {f h : Table} (front : IsFrontier g π first k f)
      (step : IsStepped (step_at g π k (eqb first (suc k)) (stops_at last T k)) c f h) {d d' : Schedule} {x y cost : ℤ}
      (onward : IsOnward g π first k last h d x cost)
      (chosen : IsChosen (step_at g π k (eqb first (suc k)) (stops_at last T k)) f k x y d d') where
    abbrev begins : Bool
    begins = eqb first (suc k)

    abbrev ends : Bool
    ends = stops_at last T k

    abbrev cap : ℤ
    cap = cap_at g begins ends

    abbrev term : ℤ → ℤ
    term q = reserve_term mu cap g.ramp_up q

    abbrev best_at : ℤ → ℤ
    best_at q = best_reserve mu cap g.ramp_up q x

    source : (w : ℤ) × (value_of f y ≡ Some w) × (chosen.value ≡ w +ℤ term y)
    source = added term y (chosen.is_kinked y) chosen.least.there

    -- a value before the kink is one after it
    kinked : (q v : ℤ) → value_of f q ≡ Some v → value_of chosen.kinked q ≡ Some (v +ℤ term q)
    kinked q v there = chosen.is_kinked q ∙ ap (option_map (λ v. v +ℤ term q)) there

    abbrev w : ℤ
    w = source.0

    move : IsMove g begins ends y x (best_at y)
    move =
        let m = step_sound π k unit price curve begins ends step x onward.there in
        let may = best_may mu cap g.ramp_up y x (omega signed) (omega signed) in
        record {
          least = m.move.least;
          greatest = may.greatest;
          ramp_up = may.ramp;
          ramp_down = omega signed;
          leave = m.move.leave;
        }

    -- it is the value that the step has at x
    value_is : onward.value ≡ w +ℤ net_cost_at g π k x (best_at y)
    value_is =
        let m = step_sound π k unit price curve begins ends step x onward.there in
        let q = m.before in
        let may = best_may mu cap g.ramp_up y x (omega signed) (omega signed) in
        let s = step_complete π k unit price curve begins ends step source.1 move may.least in
        let same = same_some {a = s.0} s.1 onward.there in
        let least = chosen.least.least q (m.old +ℤ term q) (kinked q m.old m.there) (omega signed)
        (omega signed) in
        let below = net_at_least g π k price cap q x
        (record { least = m.not_negative; greatest = m.move.greatest; ramp = m.move.ramp_up }) in
        let net_q = net_of_best g π k price cap q x in
        let net_y = net_of_best g π k price cap y x in
        let from_y = source.2 in
        omega signed

    power_after : (j : ℕ) → suc k ≤ j → power_in d' (suc j) ≡ power_in d (suc j)
    power_after j later = ap pos (chosen.written.outside.power j (inr (omega arith)))

    reserve_after : (j : ℕ) → suc k ≤ j → reserve_in d' (suc j) ≡ reserve_in d (suc j)
    reserve_after j later = ap pos (chosen.written.outside.reserve j (inr (omega arith)))

    later_of : (i : ℕ) (other : Schedule) → k ≤ i → HasSamePowersAfter (suc i) last d' other →
        HasSamePowersAfter (suc i) last d other
    later_of i other above same j later high = same j later high ∙ power_after j (omega arith)

    way_completes : (run : Schedule) → IsRun g first k run → level g first run k ≡ y → IsSameAfter k last d' run →
        IsDispatch g T first last run × (spell_cost g π first last run ≡ spell_cost g π first k run +ℤ (cost -ℤ w)) ×
        ((j : ℕ) → k ≤ j → j < last → HasBestReserve g π first last run j)
    way_completes run keeps at same =
        let power : power_in run (suc k) ≡ x = same.power k (omega arith) (omega arith) ∙ chosen.written.power in
        let reserve : reserve_in run (suc k) ≡ best_at y = same.reserve k (omega arith) (omega arith) ∙
        chosen.written.reserve in
        let o = onward.completes run keeps power (move_same (sym at) (sym power) (sym reserve) move) (record {
          power = λ j above high. same.power j (omega arith) high ∙ power_after j above;
          reserve = λ j above high. same.reserve j (omega arith) high ∙ reserve_after j above;
        }) in
        let more = cost_more g π first k run from in
        let net : net_cost g π run (suc k) ≡ net_cost_at g π k x (best_at y) = cc in
        let is = value_is in
        let best : HasBestReserve g π first last run k = cc in (
          o.0,
          omega signed,
          λ j above high. elim (cases_lt k j) [
            | inl after ↦ o.2 j (omega arith) high
            | inr most ↦ let z : k ≡ j = omega arith in subst (λ (i : ℕ). HasBestReserve g π first last run i) z best
          ],
        )

    -- what another dispatch does in period suc k
    module _ (other : Schedule) (dispatch : IsDispatch g T first last other) (same : HasSamePowersAfter k last d' other)
      where
        abbrev q : ℤ
        q = level g first other k

        other_power : power_in other (suc k) ≡ x
        other_power = same k (omega arith) (omega arith) ∙ chosen.written.power

        other_move : IsMove g begins ends q x (reserve_in other (suc k))
        other_move = move_same refl other_power refl (move_of unit last from low dispatch)

        other_net : net_cost_at g π k x (best_at q) ≤ℤ net_cost g π other (suc k)
        other_net =
            let least = net_at_least g π k price cap q x (record
            { least = reserve_not_negative other k; greatest = other_move.greatest; ramp = other_move.ramp_up }) in
            let same_net : net_cost g π other (suc k) ≡ net_cost_at g π k x (reserve_in other (suc k)) = ap
            (λ p. net_cost_at g π k p (reserve_in other (suc k))) other_power in
            omega signed

        other_rest : ((spell_cost g π first k other +ℤ net_cost g π other (suc k)) +ℤ (cost -ℤ onward.value)) ≤ℤ
            spell_cost g π first last other
        other_rest =
            let o = onward.rest other dispatch
            (λ j later high. same j (omega arith) high ∙ power_after j later) other_power in
            let more = cost_more g π first k other from in
            omega signed

        way_rest : q ≡ y → (spell_cost g π first k other +ℤ (cost -ℤ w)) ≤ℤ spell_cost g π first last other
        way_rest at =
            let o = other_rest in
            let n = other_net in
            let is = value_is in
            let e : net_cost_at g π k x (best_at q) ≡ net_cost_at g π k x (best_at y) = ap
            (λ z. net_cost_at g π k x (best_at z)) at in
            omega signed

        way_first : spell_cost g π first last other ≡ cost → y ≤ℤ q
        way_first cost_is =
            let o = other_rest in
            let n = other_net in
            let is = value_is in
            let m = other_move in
            let b = front.complete other (run_of unit last from low dispatch) in
            let there = kinked q b.0 b.1 in
            let kept = reserve_not_negative other k in
            let back : (x -ℤ g.ramp_up) ≤ℤ q = omega signed in
            let ahead : q ≤ℤ (x +ℤ g.ramp_down) = omega signed in
            let least = chosen.least.least q (b.0 +ℤ term q) there back ahead in
            let net_q = net_of_best g π k price cap q x in
            let net_y = net_of_best g π k price cap y x in
            let from_y = source.2 in
            let e : b.0 +ℤ term q ≡ chosen.value = omega signed in
            chosen.least.first q (cc) back ahead

    way_after : (other : Schedule) → IsDispatch g T first last other → spell_cost g π first last other ≡ cost →
        (i : ℕ) → k ≤ i → i < last → HasSamePowersAfter (suc i) last d' other →
        power_in d' (suc i) ≤ℤ power_in other (suc i)
    way_after other dispatch cost_is i above high same = elim (cases_lt k i) [
      | inl after ↦
          let a = onward.first_after other dispatch cost_is i (omega arith) high (later_of i other above same) in
          let e = power_after i (omega arith) in
          omega signed
      | inr most ↦
          let z : i ≡ k = omega arith in
          let here : HasSamePowersAfter (suc k) last d' other = rw z at same in
          let a = onward.first_here other dispatch cost_is (later_of k other (omega arith) here) in
          let b : power_in d' (suc k) ≤ℤ power_in other (suc k) = omega signed in
          subst (λ t. power_in d' (suc t) ≤ℤ power_in other (suc t)) (sym z) b
    ]

    pub way_of_choice : IsWayFrom g π first k last f d' y cost
    way_of_choice = record {
      before = w;
      there = source.1;
      completes = way_completes;
      least = onward.least;
      rest = λ other dispatch same at. way_rest other dispatch same at;
      first_before = λ other dispatch cost_is same. way_first other dispatch same cost_is;
      first_after = way_after;
    }
