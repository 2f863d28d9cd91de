-- A step on a function of the power is one period of a spell: each new value is an old one and a move, and no move is
-- cheaper.
use Rattle.spell_run.proofs.Common
use Common.{◌≡◌, ℕ, ℤ, pos, neg_ℤ, ◌+ℤ◌, ◌-ℤ◌, ◌*ℤ◌, ◌≤ℤ◌, Bool, true, false, Some, refl, ap, ◌∙◌, subst, IsTrue}
use Common.{option_map, int_min, bounded, signed, *ℤ_comm, IsCostCurve, AreCostPoints, EnvelopeIsWithinCostLimit}
use Common.{curve_value}
use Common.{reserve_term, same_some, Table, value_of, Curve, ThermalUnit, PriceLists, envelope, IsFrom, IsThermalUnit}
use Common.{Spans, int_at, mul-sub, IsWithin, product_within, most_reserve, best_reserve, IsReserve, net_cost_at}
use Common.{cap_at, step_at, IsMove, IsStepped}
use Rattle.spell_run.proofs.ReserveLaws.{reserve_is_a_kink, best_may, best_earns, best_is_best, best_where_not_paid}
use Rattle.spell_run.proofs.SumLaws.{added, raised}

-- ---- caps

-- z is within the limits that hold
pub record IsUnder (g : ThermalUnit) (starts stops : Bool) (z : ℤ) : Type 0 where
  pub most : z ≤ℤ g.max_power
  pub start : IsTrue starts → z ≤ℤ g.start_limit
  pub stop : IsTrue stops → z ≤ℤ g.stop_limit

pub under_cap : (g : ThermalUnit) (starts stops : Bool) {z : ℤ} → z ≤ℤ cap_at g starts stops → IsUnder g starts stops z
under_cap g true true h = record {
  most = omega bounded;
  start = λ _. omega bounded;
  stop = λ _.
      omega bounded;
}
under_cap g true false h = record
    { most = omega bounded; start = λ _. omega bounded; stop = λ e. cc }
under_cap g false true h = record
    { most = omega bounded; start = λ e. cc; stop = λ _. omega bounded }
under_cap g false false h = record { most = omega bounded; start = λ e. cc; stop = λ e. cc }

pub cap_over : (g : ThermalUnit) (starts stops : Bool) {z : ℤ} → IsUnder g starts stops z → z ≤ℤ cap_at g starts stops
cap_over g true true h = let b = h.start refl in let c = h.stop refl in omega bounded
cap_over g true false h = let b = h.start refl in omega bounded
cap_over g false true h = let c = h.stop refl in omega bounded
cap_over g false false h = omega bounded

-- the greatest power of a step
pub under_most : (g : ThermalUnit) (π : PriceLists) (k : ℕ) (starts stops : Bool) {x : ℤ} →
    x ≤ℤ (step_at g π k starts stops).most →
    (x ≤ℤ cap_at g starts stops) × (IsTrue stops → (x -ℤ g.min_power) ≤ℤ g.ramp_down)
under_most g π k starts true {x = x} h =
    let z : x ≤ℤ int_min (cap_at g starts true) (g.min_power +ℤ g.ramp_down) = h in
    (omega bounded, λ _. omega bounded)
under_most g π k starts false h = (h, λ e. cc)

pub most_over : (g : ThermalUnit) (π : PriceLists) (k : ℕ) (starts stops : Bool) {x : ℤ} → x ≤ℤ cap_at g starts stops →
    (IsTrue stops → (x -ℤ g.min_power) ≤ℤ g.ramp_down) → x ≤ℤ (step_at g π k starts stops).most
most_over g π k starts true {x = x} h leave =
    let l = leave refl in
    let z : x ≤ℤ int_min (cap_at g starts true) (g.min_power +ℤ g.ramp_down) = omega bounded in
    z
most_over g π k starts false h leave = h

-- ---- what a step adds

sub_mul : (a b c : ℤ) → (a -ℤ b) *ℤ c ≡ (a *ℤ c) -ℤ (b *ℤ c)
sub_mul a b c =
    let e = *ℤ_comm (a -ℤ b) c in
    let f = mul-sub c a b in
    let i = *ℤ_comm c a in
    let j = *ℤ_comm c b in
    omega signed

-- the parts of a step make up the net cost at the most reserve
parts_are : (mu lambda cap up q p w e : ℤ) →
    (((w +ℤ reserve_term mu cap up q) +ℤ ((mu -ℤ lambda) *ℤ p)) +ℤ e) ≡ w +ℤ
    (e -ℤ ((lambda *ℤ p) +ℤ (mu *ℤ most_reserve cap up q p)))
parts_are mu lambda cap up q p w e =
    let k = reserve_is_a_kink mu cap up q p in
    let s = sub_mul mu lambda p in
    let t : reserve_term mu cap up q ≡ neg_ℤ (mu *ℤ int_min cap (up +ℤ q)) = refl in
    omega signed

-- ---- one step

-- value v at power x comes from an old value and a move; without a reserve price from one without reserve
pub record IsFromMove (g : ThermalUnit) (π : PriceLists) (k : ℕ) (starts stops : Bool) (f : Table) (x v : ℤ) : Type 0
  where
    pub before : ℤ
    pub old : ℤ
    pub reserve : ℤ
    pub there : value_of f before ≡ Some old
    pub not_negative : pos 0 ≤ℤ reserve
    pub idle : int_at π.reserve k ≡ pos 0 → reserve ≡ pos 0
    pub move : IsMove g starts stops before x reserve
    pub cost : v ≡ old +ℤ net_cost_at g π k x reserve

module _ {g : ThermalUnit} (π : PriceLists) (k : ℕ) {c : Curve} (unit : IsThermalUnit g)
    (price : pos 0 ≤ℤ int_at π.reserve k) (curve : IsCostCurve g.points c) where
  spans : (x : ℤ) → g.min_power ≤ℤ x → x ≤ℤ g.max_power → Spans g.points x x
  spans x low high = record {
    first = λ d. let e = unit.span.first d in omega signed;
    last = λ n d is. let e = unit.span.last n d is in omega signed;
  }

  pub cost_on : {x : ℤ} → g.min_power ≤ℤ x → x ≤ℤ g.max_power → curve_value c x ≡ Some (envelope g.points x)
  cost_on {x = x} low high = curve.value x (spans x low high)

  module _ (starts stops : Bool) {f h : Table} (step : IsStepped (step_at g π k starts stops) c f h) where
    abbrev mu : ℤ
    mu = int_at π.reserve k

    abbrev cap : ℤ
    cap = cap_at g starts stops

    abbrev line_term : ℤ → ℤ
    line_term x = (mu -ℤ int_at π.energy k) *ℤ x

    abbrev kink_term : ℤ → ℤ
    kink_term = reserve_term mu cap g.ramp_up

    pub step_sound : (x : ℤ) {v : ℤ} → value_of h x ≡ Some v → IsFromMove g π k starts stops f x v
    step_sound x {v = v} is =
        let r = raised (curve_value c) (x +ℤ pos 0) v (value_of step.line x) (value_of h x) (step.is_curve x) is in
        let l = added line_term x (step.is_line x) r.2 in
        let w = step.is_window.reached x l.0 l.1 in
        let q = w.0 in
        let b = added kink_term q (step.is_kinked q) w.1 in
        let low = w.2.0 in
        let high = under_most g π k starts stops w.2.1 in
        let u = under_cap g starts stops high.0 in
        let at : x +ℤ pos 0 ≡ x = omega signed in
        let e = same_some (subst (λ y. curve_value c y ≡ Some r.1) at r.3) (cost_on low u.most) in
        let may = best_may mu cap g.ramp_up q x high.0 (omega signed) in
        let earns = best_earns mu cap g.ramp_up q x price in
        let parts = parts_are mu (int_at π.energy k) cap g.ramp_up q x b.0 r.1 in
        record {
          before = q;
          old = b.0;
          reserve = best_reserve mu cap g.ramp_up q x;
          there = b.1;
          not_negative = may.least;
          idle = λ none. best_where_not_paid mu cap g.ramp_up q x (omega signed);
          move = record {
            least = low;
            greatest = may.greatest;
            ramp_up = may.ramp;
            ramp_down = omega signed;
            leave = high.1;
          };
          cost = omega signed;
        }

    pub step_complete : {q w x r : ℤ} → value_of f q ≡ Some w → IsMove g starts stops q x r → pos 0 ≤ℤ r →
        (v : ℤ) × (value_of h x ≡ Some v) × (v ≤ℤ (w +ℤ net_cost_at g π k x r))
    step_complete {q = q} {w = w} {x = x} {r = r} there move kept =
        let under : x ≤ℤ cap = let top = move.greatest in omega signed in
        let u = under_cap g starts stops under in
        let high = most_over g π k starts stops under move.leave in
        let kinked : value_of step.kinked q ≡ Some (w +ℤ kink_term q) = step.is_kinked q ∙
        ap (option_map (λ v. v +ℤ kink_term q)) there in
        let n = step.is_window.least x q (w +ℤ kink_term q) kinked (move.least, high)
        (omega signed, omega signed) in
        let line : value_of step.line x ≡ Some (n.0 +ℤ line_term x) = step.is_line x ∙
        ap (option_map (λ v. v +ℤ line_term x)) n.1 in
        let p = on_curve x (n.0 +ℤ line_term x) line move.least u.most in
        let may : IsReserve cap g.ramp_up q x r = record
        { least = kept; greatest = move.greatest; ramp = move.ramp_up } in
        let best = best_is_best mu cap g.ramp_up q x r price may in
        let earns = best_earns mu cap g.ramp_up q x price in
        let parts = parts_are mu (int_at π.energy k) cap g.ramp_up q x w (envelope g.points x) in
        ((n.0 +ℤ line_term x) +ℤ envelope g.points x, p, omega signed)
      where
        on_curve : (x v : ℤ) → value_of step.line x ≡ Some v → g.min_power ≤ℤ x → x ≤ℤ g.max_power →
            value_of h x ≡ Some (v +ℤ envelope g.points x)
        on_curve x v is low high =
            let m = rw is at (step.is_curve x) in
            let at : x +ℤ pos 0 ≡ x = omega signed in
            let e = same_some (subst (λ y. curve_value c y ≡ Some m.0) at m.1) (cost_on low high) in
            cc

  -- what a move costs is far within the limits
  pub net_within : {starts stops : Bool} {q x r : ℤ} → EnvelopeIsWithinCostLimit →
      IsFrom (neg_ℤ (pos 10000000)) (pos 10000000) (int_at π.energy k) → int_at π.reserve k ≤ℤ pos 10000000 →
      IsMove g starts stops q x r → pos 0 ≤ℤ r → IsWithin 1000000000000000 (net_cost_at g π k x r)
  net_within {starts = starts} {stops = stops} {x = x} {r = r} law energy high move kept =
      let least = move.least in
      let u = under_cap g starts stops move.greatest in
      let points : AreCostPoints g.points = record
      { some = unit.some_point; count = unit.point_count; points = unit.points; ordered = unit.points_ordered } in
      let e = law g.points x points (spans x least (omega signed)) in
      let reserve_price = product_within 10000000 10000000 (int_at π.energy k) x energy
      (record { at_least = omega signed; at_most = omega signed })
      in
      let worth = product_within 10000000 10000000 (int_at π.reserve k) r
      (record { at_least = omega signed; at_most = high })
      (record { at_least = kept; at_most = omega signed }) in
      let a = e.at_least in
      record { at_least = omega signed; at_most = omega signed }

-- ---- the best reserve of a step

module _ (g : ThermalUnit) (π : PriceLists) (k : ℕ) (price : pos 0 ≤ℤ int_at π.reserve k) (cap q x : ℤ) where
  abbrev reserve_price : ℤ
  reserve_price = int_at π.reserve k

  -- what a step from q to x adds at the best reserve
  abbrev pub best_net : ℤ
  best_net = (reserve_term reserve_price cap g.ramp_up q +ℤ ((reserve_price -ℤ int_at π.energy k) *ℤ x)) +ℤ
      envelope g.points x

  pub net_of_best : net_cost_at g π k x (best_reserve reserve_price cap g.ramp_up q x) ≡ best_net
  net_of_best =
      let parts = parts_are reserve_price (int_at π.energy k) cap g.ramp_up q x (pos 0) (envelope g.points x) in
      let earns = best_earns reserve_price cap g.ramp_up q x price in
      omega signed

  pub net_at_least : {r : ℤ} → IsReserve cap g.ramp_up q x r →
      net_cost_at g π k x (best_reserve reserve_price cap g.ramp_up q x) ≤ℤ net_cost_at g π k x r
  net_at_least {r = r} may = let best = best_is_best reserve_price cap g.ramp_up q x r price may in omega signed
