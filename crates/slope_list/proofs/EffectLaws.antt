-- Each effect fixes the new function, and is that of any function with the same values.
use Rattle.slope_list.proofs.Common.{◌≡◌, Option, Some, None, refl, sym, ap, ◌∙◌, subst, arith, ℤ, ◌+ℤ◌, ◌≤ℤ◌}
use Rattle.slope_list.proofs.Common.{MatchOption, option_map, ints, Table, value_of, IsPoint, IsWindow, PointIsExact}
use Rattle.slope_list.proofs.Common.{SumIsExact, CurveSumIsExact, WindowIsExact, SumIsOfValues, CurveSumIsOfValues}
use Rattle.slope_list.proofs.Common.{WindowIsOfValues}
use Rattle.slope_list.proofs.Lookup.{same_some}

-- two look-ups agree where each value of one is a value of the other
same_by : (o p : Option ℤ) → ((v : ℤ) → o ≡ Some v → p ≡ Some v) → ((v : ℤ) → p ≡ Some v → o ≡ Some v) → p ≡ o
same_by None None there back = refl
same_by None (Some v) there back = sym (back v refl)
same_by (Some v) p there back = there v refl

pub point_is_exact : PointIsExact
point_is_exact power value g g' is is' x = same_by (value_of g x) (value_of g' x) (at g g' is is') (at g' g is' is)
  where
    at : (h h' : Table) → IsPoint power value h → IsPoint power value h' → (v : ℤ) → value_of h x ≡ Some v →
        value_of h' x ≡ Some v
    at h h' a a' v p =
        let e = a.only x v p in
        let s : v ≡ value = same_some (value_of h power) (ap (value_of h) (sym e) ∙ p) a.there in
        ap (value_of h') e ∙ a'.there ∙ ap Some (sym s)

pub sum_is_exact : SumIsExact
sum_is_exact term f g g' is is' x = is' x ∙ sym (is x)

curve_by : (curve : ℤ → Option ℤ) (y : ℤ) (o p p' : Option ℤ) →
    MatchOption o (p ≡ None) (λ v. (c : ℤ) × (curve y ≡ Some c) × (p ≡ Some (v +ℤ c)))
    → MatchOption o (p' ≡ None) (λ v. (c : ℤ) × (curve y ≡ Some c) × (p' ≡ Some (v +ℤ c))) → p' ≡ p
curve_by curve y None p p' m m' = m' ∙ sym m
curve_by curve y (Some v) p p' m m' =
    let e : m'.0 ≡ m.0 = same_some (curve y) m'.1 m.1 in
    m'.2 ∙ ap (λ c. Some (v +ℤ c)) e ∙ sym m.2

pub curve_sum_is_exact : CurveSumIsExact
curve_sum_is_exact curve shift f g g' is is' x =
    curve_by curve (x +ℤ shift) (value_of f x) (value_of g x) (value_of g' x) (is x) (is' x)

-- of two windows of one function, each value of one is a value of the other
window_value : (up down lo hi : ℤ) (f g g' : Table) → IsWindow up down lo hi f g → IsWindow up down lo hi f g' →
    (x v : ℤ) → value_of g x ≡ Some v → value_of g' x ≡ Some v
window_value up down lo hi f g g' w w' x v p =
    let r = w.reached x v p in
    let s = w'.least x r.0 v r.1 r.2 r.3 in
    let r' = w'.reached x s.0 s.1 in
    let s' = w.least x r'.0 s.0 r'.1 r'.2 r'.3 in
    let low : s.0 ≤ℤ v = s.2 in
    let high : s'.0 ≤ℤ s.0 = s'.2 in
    let same : s'.0 ≡ v = same_some (value_of g x) s'.1 p in
    let e : s.0 ≡ v = omega (arith, ints) in
    s.1 ∙ ap Some e

pub window_is_exact : WindowIsExact
window_is_exact up down lo hi f g g' w w' x =
    same_by (value_of g x) (value_of g' x) (window_value up down lo hi f g g' w w' x)
    (window_value up down lo hi f g' g w' w x)

-- ---- the effects of a function that has the same values as another

pub sum_is_of_values : SumIsOfValues
sum_is_of_values term f f' g g' same new sum x = new x ∙ sum x ∙ ap (option_map (λ v. v +ℤ term x)) (sym (same x))

pub curve_sum_is_of_values : CurveSumIsOfValues
curve_sum_is_of_values curve shift f f' g g' same new sum x =
    subst (λ o. MatchOption o (value_of g' x ≡ None)
    (λ v. (c : ℤ) × (curve (x +ℤ shift) ≡ Some c) × (value_of g' x ≡ Some (v +ℤ c)))) (sym (same x))
    (subst (λ p. MatchOption (value_of f x) (p ≡ None)
    (λ v. (c : ℤ) × (curve (x +ℤ shift) ≡ Some c) × (p ≡ Some (v +ℤ c)))) (sym (new x)) (sum x))

pub window_is_of_values : WindowIsOfValues
window_is_of_values up down lo hi f f' g g' same new w = record {
  reached = λ x v h. let r = w.reached x v (sym (new x) ∙ h) in (r.0, same r.0 ∙ r.1, r.2, r.3);
  least = λ x y u h inside reach. let r = w.least x y u (sym (same y) ∙ h) inside reach in (r.0, new x ∙ r.1, r.2);
}
