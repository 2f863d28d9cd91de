-- Between knots within the limits every value is within them.
use Rattle.ramp_step.proofs.Common.{◌≡◌, ℕ, ◌+◌, ◌-◌, List, sym, ap, ◌∙◌, subst, arith, ℤ, pos, ◌+ℤ◌, ◌-ℤ◌, ints}
use Rattle.ramp_step.proofs.Common.{by_lt_z, IsWithinLimits, IsAmount, Knot, power, StandFor, IsShape, IsInside}
use Rattle.ramp_step.proofs.Common.{IsLimited, table_of, AreWithinLimits}
use Rattle.ramp_step.proofs.DivLaws.{amount_part}
use Rattle.ramp_step.proofs.WindowLaws.{straight_line}
use Rattle.ramp_step.proofs.BreakpointLaws.{behind}
use Rattle.ramp_step.proofs.ShapeLaws.{inside_value}

pub IsLimited-within : (ks : List Knot) (n : ℕ) → AreWithinLimits ks n → IsLimited ks n
IsLimited-within ks n w = record {
  powers = λ k h. let p = w.powers k h in let a = p.0 in let b = p.1 in (omega (arith, ints), omega (arith, ints));
  amounts = w.amounts;
}

amount_inside : (ks : List Knot) (n : ℕ) (f : ℤ → ℤ) → StandFor ks n f → AreWithinLimits ks n → (x : ℤ) →
    IsInside ks n x → IsAmount (f x)
amount_inside ks n f s w x h =
    let some = h.some in
    by_lt_z (power ks 0) x
    (λ past.
    let b = behind ks (n - 1) x past h.to_last in
    let k = b.at in
    let to = b.to in
    let rise = s.rise k (omega arith) in
    let straight = s.straight k (omega arith) in
    let slope = f (power ks k +ℤ pos 1) -ℤ f (power ks k) in
    let m0 = s.meet k (omega arith) in
    let m1 = s.meet (k + 1) (omega arith) in
    let here = straight_line f (power ks k) (power ks (k + 1)) straight x (omega (arith, ints)) to in
    let end = straight_line f (power ks k) (power ks (k + 1)) straight (power ks (k + 1)) (omega (arith, ints))
    (omega (arith, ints)) in
    subst IsAmount (sym here)
    (amount_part (f (power ks k)) (f (power ks (k + 1))) slope (x -ℤ power ks k) (power ks (k + 1) -ℤ power ks k) end
    (omega (arith, ints)) (omega (arith, ints))
    (subst IsAmount m0 (w.amounts k (omega arith))) (subst IsAmount m1 (w.amounts (k + 1) (omega arith)))))
    (λ first. let e : x ≡ power ks 0 = omega (arith, ints) in
    subst IsAmount (s.meet 0 some ∙ ap f (sym e)) (w.amounts 0 some))

pub IsWithinLimits-from_knots : (ks : List Knot) (n : ℕ) → IsShape ks n → AreWithinLimits ks n →
    IsWithinLimits (table_of ks n)
IsWithinLimits-from_knots ks n shape w x v h =
    let f = shape.0 in
    let i = inside_value ks n f shape.1 x v h in
    let some = i.inside.some in
    let a = (w.powers 0 some).0 in
    let b = (w.powers (n - 1) (omega arith)).1 in
    ((omega (arith, ints), omega (arith, ints)), subst IsAmount i.is (amount_inside ks n f shape.1 w x i.inside))
