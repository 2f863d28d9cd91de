-- A function as a table: that it is convex, and what is added to it.
use Rattle.slope_list.proofs.Common.{◌≡◌, ◌≤◌, Option, Some, None, sym, ap, ◌∙◌, subst, arith, ℤ, pos, ◌+ℤ◌, ◌≤ℤ◌}
use Rattle.slope_list.proofs.Common.{MatchOption, option_map, ints, value_of, IsConvex, IsSum, IsCurveSum, curve_value}
use Rattle.slope_list.proofs.Common.{ConvexityDependsOnValuesAlone, Curve, HasCosts, with_cost, table_on, Curves}
use Rattle.slope_list.proofs.BlockLaws.{cost_at_is, mapped_some}
use Rattle.slope_list.proofs.FunctionLaws.{on_inside, by_power, on_back}

-- ---- convexity

pub IsConvex-from_curves : ConvexityDependsOnValuesAlone → (f : ℤ → ℤ) (a b : ℤ) → Curves f a b → IsConvex
    (table_on f a b)
IsConvex-from_curves law f a b c = (law (table_on f a b)).1 (λ x u v w p q r.
    let d = on_back f a b x u p in
    let e = on_back f a b (x +ℤ pos 1) v q in
    let g = on_back f a b (x +ℤ pos 2) w r in
    let low = d.from in
    let h = c x (x +ℤ pos 1) low (omega (arith, ints)) (omega (arith, ints)) in
    let s : f ((x +ℤ pos 1) +ℤ pos 1) ≡ f (x +ℤ pos 2) = ap f (omega (arith, ints)) in
    omega (arith, ints))

pub convex_steps : ConvexityDependsOnValuesAlone → (f : ℤ → ℤ) (a b x : ℤ) → IsConvex (table_on f a b) → a ≤ℤ x →
    (x +ℤ pos 2) ≤ℤ b → (f (x +ℤ pos 1) +ℤ f (x +ℤ pos 1)) ≤ℤ (f x +ℤ f (x +ℤ pos 2))
convex_steps law f a b x c low high =
    (law (table_on f a b)).0 c x (f x) (f (x +ℤ pos 1)) (f (x +ℤ pos 2))
    (on_inside f a b x low (omega (arith, ints)))
    (on_inside f a b (x +ℤ pos 1) (omega (arith, ints)) (omega (arith, ints)))
    (on_inside f a b (x +ℤ pos 2) (omega (arith, ints)) high)

-- ---- what is added

mapped_none : (t : ℤ) (o : Option ℤ) → o ≡ None → option_map (λ (u : ℤ). u +ℤ t) o ≡ None
mapped_none t o h = ap (option_map (λ (u : ℤ). u +ℤ t)) h

pub IsSum-on : (term f : ℤ → ℤ) (a b : ℤ) → IsSum term (table_on f a b) (table_on (λ x. f x +ℤ term x) a b)
IsSum-on term f a b x = by_power a b x
    (λ (low : a ≤ℤ x) (high : x ≤ℤ b).
    on_inside (λ z. f z +ℤ term z) a b x low high ∙
    sym (mapped_some (term x) (value_of (table_on f a b) x) (f x) (on_inside f a b x low high)))
    (λ none. none (λ z. f z +ℤ term z) ∙ sym (mapped_none (term x) (value_of (table_on f a b) x) (none f)))

at_some : (P : Type 0) (Q : ℤ → Type 0) (o : Option ℤ) (v : ℤ) → o ≡ Some v → Q v → MatchOption o P Q
at_some P Q o v h q = subst (λ (z : Option ℤ). MatchOption z P Q) (sym h) q

at_none : (P : Type 0) (Q : ℤ → Type 0) (o : Option ℤ) → o ≡ None → P → MatchOption o P Q
at_none P Q o h p = subst (λ (z : Option ℤ). MatchOption z P Q) (sym h) p

pub IsCurveSum-on : (c : Curve) (f : ℤ → ℤ) (a b : ℤ) → HasCosts c a b →
    IsCurveSum (curve_value c) (pos 0) (table_on f a b) (table_on (with_cost f c) a b)
IsCurveSum-on c f a b costs x = by_power a b x
    (λ (low : a ≤ℤ x) (high : x ≤ℤ b).
    let k = costs x low high in
    let e = cost_at_is c x k.0 k.1 in
    at_some _ _ (value_of (table_on f a b) x) (f x) (on_inside f a b x low high) (
      k.0,
      ap (curve_value c) (omega (arith, ints)) ∙ k.1,
      on_inside (with_cost f c) a b x low high ∙
          ap (λ (z : ℤ). Some (f x +ℤ z)) e,
    ))
    (λ none. at_none _ _ (value_of (table_on f a b) x) (none f) (none (with_cost f c)))
