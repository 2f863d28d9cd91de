-- One period of backtracking, as its function has it.
use Rattle.test_units.proofs.Common.{◌≡◌, ℕ, suc, ◌<◌, ◌≤◌, ◌⊎◌, inl, inr, ℤ, pos, ◌+ℤ◌, ◌≤ℤ◌, Bool, eqb, ltb, length}
use Rattle.test_units.proofs.Common.{Option, Some, None, Result, Ok, Err, IfOk, IfSome, MatchOption, sym, ap, ◌∙◌}
use Rattle.test_units.proofs.Common.{subst, arith, option_map, ints, IsCostCurve, EnvelopeIsWithinCostLimit}
use Rattle.test_units.proofs.Common.{reserve_term}
use Rattle.test_units.proofs.Common.{IsLeast, Table, value_of, IsEmpty, Curve, ThermalUnit, PriceLists, Schedule}
use Rattle.test_units.proofs.Common.{IsFrom, IsThermalUnit, ArePrices, int_at, Found, Step, IsOnFromTo, IsSameOutside}
use Rattle.test_units.proofs.Common.{IsFrontier, IsWritten, IsChosen, IsUnreached, IsWayFrom, stops_at, HasNoDispatch}
use Rattle.test_units.proofs.Common.{IsSpellAnswer, IsSpellWithin, cap_at, step_at, IsStepped, IsSmall, IsLeastCost}
use Rattle.spell_run.proofs.FairLaws.{IsStep}
use Rattle.spell_run.proofs.FrontierLaws.{small_frontier, frontier_more, answer_of_step}
use Rattle.spell_run.proofs.StepLaws.{IsFromMove, step_sound}
use Rattle.spell_run.proofs.WayLaws.{stops_before, stops_last, IsOnward, onward_end, onward_more, way_of_choice}

-- what stays outside the periods from k on stays outside those from k - 1 on
pub outside_wider : (k last : ℕ) (d d' : Schedule) → IsSameOutside (suc (suc k)) last d d' →
    IsSameOutside (suc k) last d d'
outside_wider k last d d' same = record {
  on_length = same.on_length;
  power_length = same.power_length;
  reserve_length = same.reserve_length;
  on = λ j out. same.on j (apart j out);
  power = λ j out. same.power j (apart j out);
  reserve = λ j out. same.reserve j (apart j out);
}
  where
    apart : (j : ℕ) → (suc j < suc k) ⊎ (last < suc j) → (suc j < suc (suc k)) ⊎ (last < suc j)
    apart j (inl h) = inl (omega (arith, h))
    apart j (inr h) = inr h

-- a period of a spell, and the step over it
pub record IsPeriod (g : ThermalUnit) (π : PriceLists) (first k last : ℕ) (c : Curve) (s : Step) (f h : Table) : Type
    0 where
  pub unit : IsThermalUnit g
  pub prices : ArePrices π
  pub curve : IsCostCurve g.points c
  pub law : EnvelopeIsWithinCostLimit
  pub within : k < length π.energy
  pub from : first ≤ suc k
  pub step_is : IsStep s (step_at g π k (eqb first (suc k)) (stops_at last (length π.energy) k))
  pub frontier : IsFrontier g π first k f
  pub step : IsStepped s c f h

module _ {g : ThermalUnit} {π : PriceLists} {first k last : ℕ} {c : Curve} {s : Step} {f h : Table}
    (p : IsPeriod g π first k last c s f h) where
  abbrev starts : Bool
  starts = eqb first (suc k)

  abbrev stops : Bool
  stops = stops_at last (length π.energy) k

  price : pos 0 ≤ℤ int_at π.reserve k
  price = (p.prices.reserve k (pos 0) (let e = p.prices.lengths in let low = p.within in
      omega (arith, e, low))).at_least

  taken : IsStepped (step_at g π k starts stops) c f h
  taken = subst (λ (s : Step). IsStepped s c f h) p.step_is p.step

  moved : (x v : ℤ) → value_of h x ≡ Some v → IsFromMove g π k starts stops f x v
  moved x v is = step_sound π k p.unit price p.curve starts stops taken x is

  pub found_range : (x v : ℤ) → value_of h x ≡ Some v → IsFrom s.least s.cap x
  found_range x v is =
      let m = moved x v is in
      let greatest = m.move.greatest in
      let kept = m.not_negative in
      let range : IsFrom g.min_power (cap_at g starts stops) x =
      record { at_least = m.move.least; at_most = omega (arith, ints, greatest, kept) } in
      subst (λ (s : Step). IsFrom s.least s.cap x) (sym p.step_is) range

  pub small_period : IsSmall f
  small_period =
      let horizon = p.prices.horizon.at_most in
      let within = p.within in
      small_frontier (omega (arith, horizon, within)) p.frontier

  -- ---- the last period

  module _ (is : suc k ≡ last) where
    pub onward_last : (d : Schedule) (x cost : ℤ) → IsLeast h cost x → IsOnward g π first k last h d x cost
    onward_last d x cost least =
        let P : ℕ → Type 0 = λ l. IsStepped (step_at g π k starts (stops_at l (length π.energy) k)) c f h →
        IsOnward g π first k l h d x cost in
        subst P is (λ step. onward_end p.unit p.prices p.curve p.within p.from p.frontier step d least) taken

    answer_last : (o : Option ℤ) → IsLeastCost h o →
        IsSpellAnswer g π (length π.energy) first last o × IfSome o (IsSpellWithin first last)
    answer_last o least =
        let stop = subst (λ (l : ℕ). stops_at l (length π.energy) k ≡ ltb (suc k) (length π.energy)) is
        (stops_last (length π.energy) k) in
        subst (λ (l : ℕ). IsSpellAnswer g π (length π.energy) first l o × IfSome o (IsSpellWithin first l)) is
        (answer_of_step p.unit p.prices p.curve p.law p.within p.from p.frontier stop taken o least)

    pub none_last : IsEmpty h → HasNoDispatch g (length π.energy) first last
    none_last empty = (answer_last None empty).0

    pub within_last : (x cost : ℤ) → IsLeast h cost x → IsSpellWithin first last cost
    within_last x cost least = (answer_last (Some cost) (x, least)).1

  -- ---- an earlier period

  pub frontier_next : suc k < last → IsFrontier g π first (suc k) h
  frontier_next low =
      let e = stops_before last (length π.energy) k low in
      frontier_more p.unit p.prices p.curve p.law p.within p.from p.frontier
      (subst (λ (b : Bool). IsStepped (step_at g π k starts b) c f h) e taken)

  pub onward_next : suc k < last → (d : Schedule) (x cost : ℤ) → IsWayFrom g π first (suc k) last h d x cost →
      IsOnward g π first k last h d x cost
  onward_next low d x cost way = onward_more p.from low way

  -- ---- the choice, from a shape that is as it was

  module _ (low : suc k ≤ last) {d : Schedule} (d' : Schedule) {x cost : ℤ}
      (onward : IsOnward g π first k last h d x cost) {f' : Table} (same : f' ≡ f) where
    is_reached : IsUnreached s f' x → ⊥
    is_reached unreached =
        let u = subst (λ (s : Step). IsUnreached s f x) p.step_is
        (subst (λ (f : Table). IsUnreached s f x) same unreached) in
        let m = moved x onward.value onward.there in
        let up = m.move.ramp_up in
        let down = m.move.ramp_down in
        let kept = m.not_negative in
        let term = reserve_term (int_at π.reserve k) (cap_at g starts stops) g.ramp_up in
        let some : value_of u.kinked m.before ≡ Some (m.old +ℤ term m.before) =
        u.is_kinked m.before ∙ ap (option_map (λ v. v +ℤ term m.before)) m.there in
        let none : value_of u.kinked m.before ≡ None =
        u.none m.before (omega (arith, ints, up, kept)) (omega (arith, ints, down)) in
        cc

    abbrev Choice : Option Found → Type 0
    Choice best = MatchOption best (IsUnreached s f' x) (λ (found : Found). IsChosen s f' k x found.power d d')

    -- a way from the choice, within the bounds and on in its periods; where none was found nothing was written
    pub way_chosen : {E : Type 0} → (r : Result (Option Found) E) → IfOk r Choice →
        IfOk r (λ (best : Option Found). IfSome best (λ (found : Found). found.cost ≡ cost)) →
        (P : Type 0) → IsSpellWithin first last cost → ((q : ℤ) → IsWritten k x q d d' → IsOnFromTo (suc k) last d') →
        IfOk r (λ (best : Option Found). MatchOption best (HasNoDispatch g (length π.energy) first last × P)
        (λ (found : Found). IsWayFrom g π first k last f d' found.power found.cost ×
        IsSpellWithin first last found.cost × IsOnFromTo (suc k) last d'))
    way_chosen (Err e) chosen is P within on = tt
    way_chosen (Ok None) unreached is P within on = absurd (is_reached unreached)
    way_chosen (Ok (Some found)) chosen is P within on =
        let there = subst (λ (s : Step). IsChosen s f k x found.power d d') p.step_is
        (subst (λ (f : Table). IsChosen s f k x found.power d d') same chosen) in
        let way = way_of_choice p.unit p.prices p.curve p.within p.from low p.frontier taken onward there in (
          subst (λ (z : ℤ). IsWayFrom g π first k last f d' found.power z) (sym is) way,
          subst (λ (z : ℤ). IsSpellWithin first last z) (sym is) within,
          on _ chosen.written,
        )
