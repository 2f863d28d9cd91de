-- The frontier of a spell's first periods: its beginning, one more period, and the least costs that are read off it.
use Rattle.spell_run.proofs.Common
use Common.{◌≡◌, ℕ, zero, suc, ◌+◌, ◌-◌, ◌*◌, ◌<◌, ◌≤◌, ◌⊎◌, inl, inr, ℤ, pos, neg_ℤ, ◌+ℤ◌, ◌≤ℤ◌, Bool, true, false}
use Common.{eqb, ltb, length, Option, Some, None, IfSome, refl, sym, ap, ◌∙◌, subst, arith, lt-ltb, length-replicate}
use Common.{IsCostCurve, EnvelopeIsWithinCostLimit, IsPoint, same_some, Table, value_of, Curve, ThermalUnit, PriceLists}
use Common.{Schedule, IsFrom, IsOutput, IsThermalUnit, ArePrices, power_in, reserve_in, int_at, IsWithin, IsReached}
use Common.{IsFrontier, IsDispatch, spell_cost, signed, IsSpellAnswer, IsSpellWithin, cap_at, step_at, level, IsRun}
use Common.{IsStepped, IsSmall, IsLeastCost, IsLeastCostIn}
use Rattle.spell_run.proofs.RunLaws.{level_before, level_within, level_power, move_same}
use Rattle.spell_run.proofs.RunLaws.{run_more, run_less, cost_more, cost_none, cost_zero}
use Rattle.spell_run.proofs.RunLaws.{blank, blank_reserve, build}
use Rattle.spell_run.proofs.RunLaws.{reserve_not_negative, MayEnd, move_parts, move_whole, dispatch_from_run}
use Rattle.spell_run.proofs.RunLaws.{run_from_dispatch, end_from_dispatch}
use Rattle.spell_run.proofs.StepLaws.{under_cap, under_most, most_over, IsFromMove, step_sound, step_complete}
use Rattle.spell_run.proofs.StepLaws.{net_within}

-- ---- bounds

-- B for each period
within_more : {n m : ℕ} {v w : ℤ} → m ≡ suc n → IsWithin (n * 1000000000000000) v → IsWithin 1000000000000000 w →
    IsWithin (m * 1000000000000000) (v +ℤ w)
within_more {n = n} {m = m} is h i =
    let size : m * 1000000000000000 ≡ n * 1000000000000000 + 1000000000000000 = ap (λ k. k * 1000000000000000) is
    ∙ omega arith in
    record { at_least = omega signed; at_most = omega signed }

-- a frontier is small
pub small_frontier : {g : ThermalUnit} {π : PriceLists} {first t : ℕ} {f : Table} → t ≤ 168 → IsFrontier g π first t f →
    IsSmall f
small_frontier {first = first} {t = t} few front x v h =
    let b = front.values x v h in
    let count : suc t - first ≤ 169 = omega arith in
    (front.powers x v h, record { at_least = omega signed; at_most = omega signed })

-- ---- the beginning

module _ (g : ThermalUnit) (π : PriceLists) (first t : ℕ) {x : ℤ} {f : Table} (point : IsPoint x (pos 0) f)
    (out : IsOutput x) (none : (k : ℕ) → first ≤ suc k → suc k ≤ t → ⊥) (here : (d : Schedule) → level g first d t ≡ x)
    (cost : (d : Schedule) → spell_cost g π first t d ≡ pos 0) where
  nothing : (y v : ℤ) → value_of f y ≡ Some v → v ≡ pos 0
  nothing y v h = let e = point.only y v h in same_some (cc) point.there

  begin_at : IsFrontier g π first t f
  begin_at = record {
    sound = λ y v h. record {
      run = blank (length π.energy);
      power_length = length-replicate (length π.energy) 0;
      reserve_length = length-replicate (length π.energy) 0;
      keeps = λ k from until. absurd (none k from until);
      ends = here (blank (length π.energy)) ∙ sym (point.only y v h);
      cost = cost (blank (length π.energy)) ∙ sym (nothing y v h);
      idle = λ k is free. blank_reserve (length π.energy) k;
    };
    complete = λ d run. (pos 0, ap (value_of f) (here d) ∙ point.there, let e = cost d in omega signed);
    powers = λ y v h. rw (point.only y v h) out;
    values = λ y v h. let z = nothing y v h in record { at_least = omega signed; at_most = omega signed };
  }

pub least_power_out : {g : ThermalUnit} → IsThermalUnit g → IsOutput g.min_power
least_power_out unit = record { at_least = unit.min_power.at_least; at_most = omega signed }

-- before a spell that goes on, and before a start
pub frontier_goes_on : {g : ThermalUnit} (π : PriceLists) {f : Table} → IsThermalUnit g →
    IsPoint g.power0 (pos 0) f → IsFrontier g π 0 0 f
frontier_goes_on {g = g} π unit point =
    begin_at g π 0 0 point unit.power0 (λ k from until. absurd (omega arith))
    (λ d. let e = level_within g 0 d 0 (omega arith) in omega signed) (cost_zero g π)

pub begin_started : {g : ThermalUnit} (π : PriceLists) (first : ℕ) {f : Table} → IsThermalUnit g → 1 ≤ first →
    IsPoint g.min_power (pos 0) f → IsFrontier g π first (first - 1) f
begin_started {g = g} π first unit one point =
    begin_at g π first (first - 1) point (least_power_out unit) (λ k from until. absurd (omega arith))
    (λ d. level_before g first d (first - 1) (omega arith)) (λ d. cost_none g π first (first - 1) d (omega arith))

pub frontier_from : {g : ThermalUnit} (π : PriceLists) (first : ℕ) {power : ℤ} {f : Table} → IsThermalUnit g →
    (1 ≤ first → power ≡ g.min_power) → (first ≡ 0 → power ≡ g.power0) →
    IsPoint power (pos 0) f → IsFrontier g π first (first - 1) f
frontier_from {g = g} π zero {f = f} unit start goes_on point =
    let z : 0 ≡ 0 - 1 = omega arith in
    subst (λ t. IsFrontier g π 0 t f) z (frontier_goes_on π unit (rw (goes_on refl) at point))
frontier_from π (suc b) unit start goes_on point =
    begin_started π (suc b) unit (omega arith) (rw (start (omega arith)) at point)

-- the answer for a spell that ends with period suc k, and its bound
abbrev pub IsAnswer : ThermalUnit → PriceLists → ℕ → ℕ → Option ℤ → Type 0
IsAnswer g π first k o =
    IsSpellAnswer g π (length π.energy) first (suc k) o × IfSome o (IsSpellWithin first (suc k))

-- ---- one more period

module _ {g : ThermalUnit} {π : PriceLists} {first k : ℕ} {c : Curve} (unit : IsThermalUnit g) (prices : ArePrices π)
    (curve : IsCostCurve g.points c) (law : EnvelopeIsWithinCostLimit) (within : k < length π.energy)
    (from : first ≤ suc k) where
  abbrev starts : Bool
  starts = eqb first (suc k)

  reserve_price : IsFrom (pos 0) (pos 10000000) (int_at π.reserve k)
  reserve_price = prices.reserve k (pos 0) (omega arith)

  energy_price : IsFrom (neg_ℤ (pos 10000000)) (pos 10000000) (int_at π.energy k)
  energy_price = prices.energy k (pos 0) within

  within_after : {stops : Bool} {f : Table} {x v : ℤ} → IsFrontier g π first k f →
      IsFromMove g π k starts stops f x v → IsSpellWithin first (suc k) v
  within_after front m =
      let old = front.values m.before m.old m.there in
      let net = net_within π k unit reserve_price.at_least curve law energy_price reserve_price.at_most m.move
      m.not_negative in
      let count : suc (suc k) - first ≡ suc (suc k - first) = omega arith in
      rw m.cost (within_more count old net)

  -- ---- without a stop

  module _ {f h : Table} (front : IsFrontier g π first k f) (step : IsStepped (step_at g π k starts false) c f h) where
    moved : (x v : ℤ) → value_of h x ≡ Some v → IsFromMove g π k starts false f x v
    moved x v is = step_sound π k unit reserve_price.at_least curve starts false step x is

    more_sound : (x v : ℤ) → value_of h x ≡ Some v → IsReached g π first (suc k) x v
    more_sound x v is =
        let m = moved x v is in
        let b = build within from front m.before x m.there (omega signed) m.not_negative in
        record {
          run = b.run;
          power_length = b.power_length;
          reserve_length = b.reserve_length;
          keeps = run_more b.run b.keeps (move_same (sym b.before) (sym b.power) (sym b.reserve) m.move);
          ends = level_power g first b.run k from ∙ b.power;
          cost = cc;
          idle = λ j is free.
              let z : j ≡ k = omega arith in
              let here : int_at π.reserve k ≡ pos 0 = cc in
              ap (λ i. reserve_in b.run (suc i)) z ∙ b.reserve ∙ m.idle here;
        }

    more_complete : (d : Schedule) → IsRun g first (suc k) d →
        (v : ℤ) × (value_of h (level g first d (suc k)) ≡ Some v) × (v ≤ℤ spell_cost g π first (suc k) d)
    more_complete d run =
        let b = front.complete d (run_less d run) in
        let s = step_complete π k unit reserve_price.at_least curve starts false step b.1 (run k from (omega arith))
        (reserve_not_negative d k) in
        let more = cost_more g π first k d from in
        (s.0, ap (value_of h) (level_power g first d k from) ∙ s.1, omega signed)

    more_powers : (x v : ℤ) → value_of h x ≡ Some v → IsOutput x
    more_powers x v is =
        let m = moved x v is in
        let u = (under_cap g starts false m.move.greatest).most in
        record { at_least = omega signed; at_most = omega signed }

    pub frontier_more : IsFrontier g π first (suc k) h
    frontier_more = record {
      sound = more_sound;
      complete = more_complete;
      powers = more_powers;
      values = λ x v is. within_after front (moved x v is);
    }

  -- ---- the costs of the spells that end with the period

  abbrev periods : ℕ
  periods = length π.energy

  -- some dispatch costs v
  abbrev Costs : ℤ → Type 0
  Costs v = (d : Schedule) × IsDispatch g periods first (suc k) d × (spell_cost g π first (suc k) d ≡ v)

  -- the value of h at the last power of d is no more than d costs
  abbrev Bounds : Table → Schedule → Type 0
  Bounds h d = (v : ℤ) × (value_of h (power_in d (suc k)) ≡ Some v) × (v ≤ℤ spell_cost g π first (suc k) d)

  answer_some : {v : ℤ} → Costs v → IsSpellWithin first (suc k) v →
      ((d : Schedule) → IsDispatch g periods first (suc k) d → v ≤ℤ spell_cost g π first (suc k) d) →
      IsAnswer g π first k (Some v)
  answer_some found within least = (
    record { dispatch = found.0; keeps = found.1; cost = found.2; least = least },
    within,
  )

  -- by the least of values of which each is some cost, and under each
  answer_by : (h : Table) → ((x v : ℤ) → value_of h x ≡ Some v → Costs v × IsSpellWithin first (suc k) v) →
      ((d : Schedule) → IsDispatch g periods first (suc k) d → Bounds h d) → (o : Option ℤ) → IsLeastCost h o →
      IsAnswer g π first k o
  answer_by h reached under None empty = (
    λ d dispatch. let u = under d dispatch in let none = empty (power_in d (suc k)) in let some = u.1 in cc,
    tt,
  )
  answer_by h reached under (Some v) least =
      let r = reached least.0 v least.1.there in
      answer_some r.0 r.1 (λ d dispatch.
      let u = under d dispatch in let low = least.1.least (power_in d (suc k)) u.0 u.1 in omega signed)

  -- by a step that knows of the stop
  module _ {f h : Table} (front : IsFrontier g π first k f) {stops : Bool} (is_stop : stops ≡ ltb (suc k) periods)
      (step : IsStepped (step_at g π k starts stops) c f h) where
    under_end : (d : Schedule) → IsDispatch g periods first (suc k) d → Bounds h d
    under_end d dispatch =
        let run = run_from_dispatch unit from dispatch in
        let b = front.complete d (run_less d run) in
        let whole = move_whole first (run k from (omega arith)) (end_from_dispatch unit from dispatch) in
        let m = rw (← is_stop) at whole in
        let s = step_complete π k unit reserve_price.at_least curve starts stops step b.1 m
        (reserve_not_negative d k) in
        let more = cost_more g π first k d from in
        (s.0, s.1, omega signed)

    end_reached : (x v : ℤ) → value_of h x ≡ Some v → Costs v × IsSpellWithin first (suc k) v
    end_reached x v is =
        let m = step_sound π k unit reserve_price.at_least curve starts stops step x is in
        let b = build within from front m.before x m.there (omega signed) m.not_negative in
        let whole = move_same (sym b.before) (sym b.power) (sym b.reserve) m.move in
        let parts = move_parts first k periods b.run (rw (← is_stop) whole) in
        let dispatch = dispatch_from_run b.run from (run_more b.run b.keeps parts.0) parts.1 in
        ((b.run, dispatch, cc), within_after front m)

    pub answer_of_step : (o : Option ℤ) → IsLeastCost h o → IsAnswer g π first k o
    answer_of_step = answer_by h end_reached under_end

  -- by the frontier itself, at the powers that a stop allows
  module _ {h : Table} (front : IsFrontier g π first (suc k) h) where
    under_front : (d : Schedule) → IsDispatch g periods first (suc k) d → Bounds h d
    under_front d dispatch =
        let b = front.complete d (run_from_dispatch unit from dispatch) in
        (b.0, ap (value_of h) (sym (level_power g first d k from)) ∙ b.1, b.2)

    -- where the horizon ends
    module _ (end : suc k ≡ periods) where
      whole_reached : (x v : ℤ) → value_of h x ≡ Some v → Costs v × IsSpellWithin first (suc k) v
      whole_reached x v is =
          let r = front.sound x v is in
          let may : MayEnd g periods k r.run = record
          { stop = λ low. absurd (omega arith); leave = λ low. absurd (omega arith) } in
          ((r.run, dispatch_from_run r.run from r.keeps may, r.cost), front.values x v is)

      pub answer_at_end : (o : Option ℤ) → IsLeastCost h o → IsAnswer g π first k o
      answer_at_end = answer_by h whole_reached under_front

    -- before the end, where a stop changes nothing but the range of the power
    module _ (before : suc k < periods)
        (alike : (int_at π.reserve k ≡ pos 0) ⊎ (cap_at g starts true ≡ cap_at g starts false)) where
      abbrev high : ℤ
      high = (step_at g π k starts true).most

      alike_reached : (x v : ℤ) → value_of h x ≡ Some v → x ≤ℤ high → Costs v
      alike_reached x v is top =
          let r = front.sound x v is in
          let d = r.run in
          let power : power_in d (suc k) ≡ x = sym (level_power g first d k from) ∙ r.ends in
          let parts = under_most g π k starts true top in
          let here = (r.keeps k from (omega arith)).greatest in
          let stop : (power_in d (suc k) +ℤ reserve_in d (suc k)) ≤ℤ cap_at g starts true = elim alike [
            | inl free ↦ let none = r.idle k refl free in let low = parts.0 in omega signed
            | inr same ↦ omega signed
          ] in
          let under = under_cap g starts true stop in
          let may : MayEnd g periods k d = record {
            stop = λ low. under.stop refl;
            leave = λ low. let l = parts.1 refl in omega signed;
          } in
          (d, dispatch_from_run d from r.keeps may, r.cost)

      alike_inside : (d : Schedule) → IsDispatch g periods first (suc k) d →
          (g.min_power ≤ℤ power_in d (suc k)) × (power_in d (suc k) ≤ℤ high)
      alike_inside d dispatch =
          let run = run_from_dispatch unit from dispatch in
          let whole = move_whole first (run k from (omega arith)) (end_from_dispatch unit from dispatch) in
          let m = rw (lt-ltb (suc k) periods before) at whole in
          let kept = reserve_not_negative d k in
          (m.least, most_over g π k starts true (omega signed) m.leave)

      pub answer_alike : (o : Option ℤ) → IsLeastCostIn g.min_power high h o → IsAnswer g π first k o
      answer_alike None empty = (
        λ d dispatch.
            let u = under_front d dispatch in
            let inside = alike_inside d dispatch in
            let none = empty (power_in d (suc k)) inside.0 inside.1 in
            let some = u.1 in
            cc,
        tt,
      )
      answer_alike (Some v) least =
          answer_some (alike_reached least.0 v least.1.there least.1.inside.1)
          (front.values least.0 v least.1.there) (λ d dispatch.
          let u = under_front d dispatch in
          let inside = alike_inside d dispatch in
          let low = least.1.least (power_in d (suc k)) u.0 u.1 inside.0 inside.1 in
          omega signed)

-- ---- frontiers of the same periods have the same values

module _ {g : ThermalUnit} {π : PriceLists} {first t : ℕ} {f h : Table} (front : IsFrontier g π first t f)
    (other : IsFrontier g π first t h) where
  pub frontier_same : (x v : ℤ) → value_of f x ≡ Some v → value_of h x ≡ Some v
  frontier_same x v there =
      let r = front.sound x v there in
      let c = other.complete r.run r.keeps in
      let at : value_of h x ≡ Some c.0 = ap (value_of h) (sym r.ends) ∙ c.1 in
      let q = other.sound x c.0 at in
      let d = front.complete q.run q.keeps in
      let e = same_some (ap (value_of f) (sym q.ends) ∙ d.1) there in
      let same : c.0 ≡ v = omega signed in
      at ∙ ap Some same
