-- Knots of another list, one after another, stand for the same function.
use Rattle.ramp_step.proofs.Common.{◌≡◌, ℕ, ◌+◌, ◌-◌, ◌<◌, List, sym, ap, ◌∙◌, subst, inl, inr, arith, ℤ, ◌≤ℤ◌, Some}
use Rattle.ramp_step.proofs.Common.{None, cases_lt, ints, by_lt_z, IsSame, value_of, IsWithinLimits, Knot, knot, power}
use Rattle.ramp_step.proofs.Common.{height, StandFor, IsShape, IsInside, IsRun, RunsStandBetween, SameKnotsAreSame}
use Rattle.ramp_step.proofs.Common.{OneKnotIsPoint, table_of, AreBreaks, AreWithinLimits}
use Rattle.ramp_step.proofs.BreakpointLaws.{IsShape-breakpoints, AreBreakpoints-shape}
use Rattle.ramp_step.proofs.KnotLaws.{power_at, first_at, first_power, last_power, StandFor-run}
use Rattle.ramp_step.proofs.LimitLaws.{IsWithinLimits-from_knots}
use Rattle.ramp_step.proofs.ShapeLaws.{value_inside, inside_value, none_outside, IsConvexList-from_knots}
use Rattle.ramp_step.proofs.ShapeLaws.{IsPoint-from_knots, StandFor-one}
use Rattle.ramp_step.proofs.SpacedLaws.{StandFor-same}

pub shape_of : (ks : List Knot) (n : ℕ) → AreBreaks ks n → IsShape ks n
shape_of ks n b = IsShape-breakpoints ks n b.points

pub AreBreaks-from : (ks : List Knot) (n : ℕ) → IsShape ks n → IsWithinLimits (table_of ks n) → AreBreaks ks n
AreBreaks-from ks n shape within =
    record { points = AreBreakpoints-shape ks n shape; convex = IsConvexList-from_knots ks n shape; within = within }

module _ (ks ks' : List Knot) (n from n' : ℕ) (run : IsRun ks n from ks' n') (f : ℤ → ℤ) (s : StandFor ks n f) where
  inside_all : (x : ℤ) → IsInside ks' n' x → IsInside ks n x
  inside_all x h =
      let from_first = h.from_first in
      let to_last = h.to_last in
      let a = first_power ks ks' n from n' run f s in
      let b = last_power ks ks' n from n' run f s in
      let some = run.some in
      record { some = omega arith; from_first = omega (arith, ints); to_last = omega (arith, ints) }

  module _ (x : ℤ) (low : 0 < from → power ks from ≤ℤ x) (high : from + n' < n → x ≤ℤ power ks' (n' - 1)) where
    from_first_of : IsInside ks n x → power ks' 0 ≤ℤ x
    from_first_of h =
        let a = first_at ks ks' n from n' run f s in
        elim (cases_lt 0 from) [
          | inl later ↦ let l = low later in omega (arith, ints)
          | inr now ↦ let e : power ks from ≡ power ks 0 = ap (power ks) (omega arith) in omega (arith, ints)
        ]

    to_last_of : IsInside ks n x → x ≤ℤ power ks' (n' - 1)
    to_last_of h =
        elim (cases_lt (from + n') n) [
          | inl more ↦ high more
          | inr all ↦ let e : power ks (n - 1) ≡ power ks (from + (n' - 1)) = ap (power ks) (omega arith) in
              let a = power_at ks ks' n from n' run f s (n' - 1) (omega arith) in omega (arith, ints)
        ]

    -- inside both have the function's value, outside none
    value_same : value_of (table_of ks' n') x ≡ value_of (table_of ks n) x
    value_same =
        by_lt_z x (power ks' 0)
        (λ below. outside (λ h. let a = from_first_of h in omega (arith, ints)))
        (λ from_first.
        by_lt_z (power ks' (n' - 1)) x
        (λ above. outside (λ h. let a = to_last_of h in omega (arith, ints)))
        (λ to_last.
        let h : IsInside ks' n' x = record { some = run.some; from_first = from_first; to_last = to_last } in
        value_inside ks' n' f (StandFor-run ks ks' n from n' run f s) x h ∙
        sym (value_inside ks n f s x (inside_all x h))))
      where
        outside : (IsInside ks n x → ⊥) → value_of (table_of ks' n') x ≡ value_of (table_of ks n) x
        outside out = none_outside ks' n' f (StandFor-run ks ks' n from n' run f s) x (λ h. out (inside_all x h)) ∙
            sym (none_outside ks n f s x out)

  within_run : IsWithinLimits (table_of ks n) → IsWithinLimits (table_of ks' n')
  within_run within x v h =
      let i = inside_value ks' n' f (StandFor-run ks ks' n from n' run f s) x v h in
      within x v (value_inside ks n f s x (inside_all x i.inside) ∙ ap Some i.is)

pub runs_stand_between : RunsStandBetween
runs_stand_between ks ks' n from n' run b =
    let shape = shape_of ks n b in (
      AreBreaks-from ks' n' (shape.0, StandFor-run ks ks' n from n' run shape.0 shape.1)
          (within_run ks ks' n from n' run shape.0 shape.1 b.within),
      value_same ks ks' n from n' run shape.0 shape.1,
    )

-- ---- lists that begin with the same knots

module _ (ks ks' : List Knot) (n : ℕ) (same : (k : ℕ) → k < n → knot ks' k ≡ knot ks k) (b : AreBreaks ks n) where
  none_in : n ≡ 0 → (l : List Knot) (x : ℤ) → IsInside l n x → ⊥
  none_in e l x h = let some = h.some in omega arith

  begun : AreBreaks ks' n × IsSame (table_of ks n) (table_of ks' n)
  begun = elim (cases_lt 0 n) [
    | inl some ↦
        let run : IsRun ks n 0 ks' n =
        record { inside = omega arith; some = some; knots = λ k h. same k h ∙ ap (knot ks) (omega arith) } in
        let r = runs_stand_between ks ks' n 0 n run b in
        (r.0, λ x. r.1 x (λ h. absurd (omega arith)) (λ h. absurd (omega arith)))
    | inr none ↦
        let shape = shape_of ks n b in
        let s : StandFor ks' n shape.0 = StandFor-same ks ks' n same shape.0 shape.1 in
        let empty : (x : ℤ) → value_of (table_of ks' n) x ≡ None =
        λ x. none_outside ks' n shape.0 s x (none_in (omega arith) ks' x) in (
          AreBreaks-from ks' n (shape.0, s) (λ x v h. let e = empty x in absurd (let q = sym e ∙ h in (cc))),
          λ x. empty x ∙ sym (none_outside ks n shape.0 shape.1 x (none_in (omega arith) ks x)),
        )
  ]

pub same_knots_are_same : SameKnotsAreSame
same_knots_are_same ks ks' n n' e same b =
    subst (λ (m : ℕ). AreBreaks ks' m × IsSame (table_of ks n) (table_of ks' m)) (sym e) (begun ks ks' n same b)

pub one_knot_is_point : OneKnotIsPoint
one_knot_is_point ks at amount =
    let shape : IsShape ks 1 = (λ x. height ks 0, StandFor-one ks) in
    let within : AreWithinLimits ks 1 = record {
      powers = λ k h. let e : k ≡ 0 = omega arith in rw e at;
      amounts = λ k h. let e : k ≡ 0 = omega arith in rw e amount;
    } in
    (AreBreaks-from ks 1 shape (IsWithinLimits-from_knots ks 1 shape within), IsPoint-from_knots ks)
