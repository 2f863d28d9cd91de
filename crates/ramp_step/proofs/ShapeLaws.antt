-- A step on knots is the step on the table that they stand for.
use Rattle.ramp_step.proofs.Common.{◌≡◌, ℕ, ◌+◌, ◌-◌, List, Option, Some, None, refl, sym, ap, ◌∙◌, subst, arith, inl}
use Rattle.ramp_step.proofs.Common.{inr, ℤ, pos, ◌+ℤ◌, ◌-ℤ◌, ◌⊎◌, MatchOption, option_map, ints, value_of, IsConvexList}
use Rattle.ramp_step.proofs.Common.{HasNone, IsWithinLimits, IsAmount, IsPoint, IsSum, IsCurveSum, IsLeast, IsLeastIn}
use Rattle.ramp_step.proofs.Common.{Knot, power, height, StandFor, IsShape, IsInside, HaveSameEnds, CanAdd, IsWindow}
use Rattle.ramp_step.proofs.Common.{IsLowest, HasNoPower, IsInsideWithin, IsValueAt, values_of, table_of}
use Rattle.ramp_step.proofs.Common.{AreWithinLimits}
use Rattle.slope_list.specs.Table as tables
use Rattle.slope_list.specs.Effect as effects
use Rattle.slope_list.proofs.Lookup.{IsAt-from_value, value-from_is_at}
use Rattle.ramp_step.proofs.ValueLaws.{values_of_is}
use Rattle.ramp_step.proofs.KnotLaws.{inside_same, is_inside, HaveSameEnds-back}

-- inside the interval the table has the function's value
pub value_inside : (ks : List Knot) (n : ℕ) (f : ℤ → ℤ) → StandFor ks n f → (x : ℤ) → IsInside ks n x →
    value_of (table_of ks n) x ≡ Some (f x)
value_inside ks n f s x h =
    let v = values_of_is ks n f s in
    let b = v.back x h in
    value-from_is_at (table_of ks n) x (f x)
    (record { offset = b.0; power = b.2; inside = b.1; there = v.each b.0 b.1 ∙ ap f (sym b.2) })

pub record IsValue (ks : List Knot) (n : ℕ) (f : ℤ → ℤ) (x v : ℤ) : Type 0 where
  pub inside : IsInside ks n x
  pub is : f x ≡ v

-- and a value of the table is one of the function's, inside
pub inside_value : (ks : List Knot) (n : ℕ) (f : ℤ → ℤ) → StandFor ks n f → (x v : ℤ) →
    value_of (table_of ks n) x ≡ Some v → IsValue ks n f x v
inside_value ks n f s x v h =
    let values = values_of_is ks n f s in
    let a = IsAt-from_value (table_of ks n) x v h in
    record {
      inside = subst (λ z. IsInside ks n z) (sym a.power) (values.inside a.offset a.inside);
      is = ap f a.power ∙ sym (values.each a.offset a.inside) ∙ a.there;
    }

pub option_cases : (o : Option ℤ) → (o ≡ None) ⊎ ((v : ℤ) × (o ≡ Some v))
option_cases None = inl refl
option_cases (Some v) = inr (v, refl)

-- outside there is no value
pub none_outside : (ks : List Knot) (n : ℕ) (f : ℤ → ℤ) → StandFor ks n f → (x : ℤ) → (IsInside ks n x → ⊥) →
    value_of (table_of ks n) x ≡ None
none_outside ks n f s x out = elim (option_cases (value_of (table_of ks n) x)) [
  | inl none ↦ none
  | inr some ↦ absurd (out (inside_value ks n f s x some.0 some.1).inside)
]

-- ---- terms

-- a term that is added to the function is added to the table
pub IsSum-from_knots : (term : ℤ → ℤ) (ks ks' : List Knot) (n n' : ℕ) → IsShape ks n → HaveSameEnds ks n ks' n'
    → ((f : ℤ → ℤ) → StandFor ks n f → StandFor ks' n' (λ x. f x +ℤ term x)) →
    IsSum term (table_of ks n) (table_of ks' n')
IsSum-from_knots term ks ks' n n' shape ends step x =
    let f = shape.0 in
    let s = shape.1 in
    let s' = step f s in
    elim (option_cases (value_of (table_of ks n) x)) [
      | inr some ↦
          let v = inside_value ks n f s x some.0 some.1 in
          let new = value_inside ks' n' (λ z. f z +ℤ term z) s' x
          (inside_same ks' ks n' n x (HaveSameEnds-back ks ks' n n' ends) v.inside) in
          new ∙ ap (λ z. Some (z +ℤ term x)) v.is ∙ sym (ap (option_map (λ z. z +ℤ term x)) some.1)
      | inl none ↦ elim (option_cases (value_of (table_of ks' n') x)) [
        | inl none' ↦ none' ∙ sym (ap (option_map (λ z. z +ℤ term x)) none)
        | inr some' ↦
            let v = inside_value ks' n' (λ z. f z +ℤ term z) s' x some'.0 some'.1 in
            let old = value_inside ks n f s x (inside_same ks ks' n n' x ends v.inside) in
            absurd (let q = sym none ∙ old in (cc))
      ]
    ]

-- a term that may be added to the table may be added to the function
pub CanAdd-from_table : (term : ℤ → ℤ) (ks : List Knot) (n : ℕ) → IsWithinLimits (table_of ks n) →
    tables.CanAdd term (table_of ks n)
    → (f : ℤ → ℤ) → StandFor ks n f → CanAdd term ks n f
CanAdd-from_table term ks n within fits f s x h =
    let v = value_inside ks n f s x h in
    ((within x (f x) v).0, (within x (f x) v).1, fits x (f x) v)

-- ---- a curve, which is the term where it is defined

pub IsCurveSum-from_knots : (curve : ℤ → Option ℤ) (shift : ℤ) (term : ℤ → ℤ) (ks ks' : List Knot) (n n' : ℕ) →
    IsShape ks n → HaveSameEnds ks n ks' n'
    → ((x : ℤ) → IsInside ks n x → curve (x +ℤ shift) ≡ Some (term x))
    → ((f : ℤ → ℤ) → StandFor ks n f → StandFor ks' n' (λ x. f x +ℤ term x)) →
    IsCurveSum curve shift (table_of ks n) (table_of ks' n')
IsCurveSum-from_knots curve shift term ks ks' n n' shape ends on step x =
    let sum = IsSum-from_knots term ks ks' n n' shape ends step x in
    elim (option_cases (value_of (table_of ks n) x)) [
      | inl none ↦
          let P : Option ℤ → Type 0 = λ o. MatchOption o (value_of (table_of ks' n') x ≡ None)
          (λ v. (c : ℤ) × (curve (x +ℤ shift) ≡ Some c) × (value_of (table_of ks' n') x ≡ Some (v +ℤ c))) in
          subst P (sym none) (sum ∙ ap (option_map (λ z. z +ℤ term x)) none)
      | inr some ↦
          let P : Option ℤ → Type 0 = λ o. MatchOption o (value_of (table_of ks' n') x ≡ None)
          (λ v. (c : ℤ) × (curve (x +ℤ shift) ≡ Some c) × (value_of (table_of ks' n') x ≡ Some (v +ℤ c))) in
          let v = inside_value ks n shape.0 shape.1 x some.0 some.1 in
          subst P (sym some.1) (term x, on x v.inside, sum ∙ ap (option_map (λ z. z +ℤ term x)) some.1)
    ]

-- ---- the window

pub IsWindow-from_knots : (ks ks' : List Knot) (n n' : ℕ) (up down lo hi : ℤ) → IsShape ks n →
    IsWindow up down lo hi ks n ks' n' → effects.IsWindow up down lo hi (table_of ks n) (table_of ks' n')
IsWindow-from_knots ks ks' n n' up down lo hi shape w =
    let f = shape.0 in
    let s = shape.1 in
    let g = w.function f s in
    record {
      reached = λ x v h.
          let new = inside_value ks' n' g.0 g.1 x v h in
          let r = g.2 x new.inside in
          let least = r.2 in
          let some = new.inside.some in
          let at = least.inside in
          let old = value_inside ks n f s least.at (record { some = w.some some; from_first = at.0; to_last = at.1 }) in
          (least.at, old ∙ ap Some (least.there ∙ new.is), (r.0, r.1), least.reached);
      least = λ x y v h within reach.
          let old = inside_value ks n f s y v h in
          let inside = w.powers x y old.inside reach.0 reach.1 within.0 within.1 in
          let r = g.2 x inside in
          let low = old.inside.from_first in
          let high = old.inside.to_last in
          let least = r.2.least y low high reach.0 reach.1 in
          (g.0 x, value_inside ks' n' g.0 g.1 x inside, omega (arith, ints));
    }

-- ---- what is read

pub IsLeast-from_knots : (ks : List Knot) (n : ℕ) (q : Knot) → (shape : IsShape ks n) →
    IsLowest (IsInside ks n) shape.0 q → IsLeast (table_of ks n) q.value q.at
IsLeast-from_knots ks n q shape l = record {
  there = value_inside ks n shape.0 shape.1 q.at l.inside ∙ ap Some l.there;
  least = λ y w h. let v = inside_value ks n shape.0 shape.1 y w h in let is = v.is in let a = l.least y v.inside in
      omega (arith, ints);
  first = λ y h. let v = inside_value ks n shape.0 shape.1 y q.value h in l.first y v.inside v.is;
}

pub HasNone-from_knots : (ks : List Knot) (n : ℕ) (lo hi : ℤ) → IsShape ks n → HasNoPower (IsInsideWithin lo hi ks n) →
    HasNone lo hi (table_of ks n)
HasNone-from_knots ks n lo hi shape none x from to =
    none_outside ks n shape.0 shape.1 x (λ i. none x (record { inside = i; from = from; to = to }))

pub IsLeastIn-from_knots : (ks : List Knot) (n : ℕ) (lo hi : ℤ) (q : Knot) → (shape : IsShape ks n) →
    IsLowest (IsInsideWithin lo hi ks n) shape.0 q → IsLeastIn lo hi (table_of ks n) q.value q.at
IsLeastIn-from_knots ks n lo hi q shape l = record {
  inside = (l.inside.from, l.inside.to);
  there = value_inside ks n shape.0 shape.1 q.at l.inside.inside ∙ ap Some l.there;
  least = λ y w h from to.
      let v = inside_value ks n shape.0 shape.1 y w h in
      let a = l.least y (record { inside = v.inside; from = from; to = to }) in
      omega (arith, ints);
  first = λ y h from to.
      let v = inside_value ks n shape.0 shape.1 y q.value h in
      l.first y (record { inside = v.inside; from = from; to = to }) v.is;
}

pub value_of-from_knots : (ks : List Knot) (n : ℕ) (x : ℤ) (o : Option ℤ) → (shape : IsShape ks n) →
    MatchOption o (IsInside ks n x → ⊥) (IsValueAt shape.0 ks n x) → o ≡ value_of (table_of ks n) x
value_of-from_knots ks n x None shape none = sym (none_outside ks n shape.0 shape.1 x none)
value_of-from_knots ks n x (Some v) shape some =
    ap Some some.value ∙ sym (value_inside ks n shape.0 shape.1 x some.inside)

-- ---- convexity, and limits

pub IsConvexList-from_knots : (ks : List Knot) (n : ℕ) → IsShape ks n → IsConvexList (values_of ks n)
IsConvexList-from_knots ks n shape k h =
    let f = shape.0 in
    let s = shape.1 in
    let v = values_of_is ks n f s in
    let lo = power ks 0 in
    let a = v.each k (omega arith) in
    let b = v.each (k + 1) (omega arith) in
    let c = v.each (k + 2) h in
    let first = v.inside k (omega arith) in
    let last = v.inside (k + 2) h in
    let x = lo +ℤ pos (k + 1) in
    let convex = s.convex x (omega (arith, ints)) (omega (arith, ints)) in
    let e0 : f (x -ℤ pos 1) ≡ f (lo +ℤ pos k) = ap f (omega (arith, ints)) in
    let e1 : f (x +ℤ pos 1) ≡ f (lo +ℤ pos (k + 2)) = ap f (omega (arith, ints)) in
    omega (arith, ints)

-- limits of the table are limits of the knots
pub AreWithinLimits-from_table : (ks : List Knot) (n : ℕ) → IsShape ks n → IsWithinLimits (table_of ks n) →
    AreWithinLimits ks n
AreWithinLimits-from_table ks n shape within =
    let f = shape.0 in
    let s = shape.1 in
    record {
      powers = λ k h. (within (power ks k) (f (power ks k))
          (value_inside ks n f s (power ks k) (is_inside ks n f k s h))).0;
      amounts = λ k h. subst IsAmount (sym (s.meet k h))
          ((within (power ks k) (f (power ks k)) (value_inside ks n f s (power ks k) (is_inside ks n f k s h))).1);
    }

-- one knot
pub StandFor-one : (ks : List Knot) → StandFor ks 1 (λ x. height ks 0)
StandFor-one ks = record {
  rise = λ k h. absurd (omega arith);
  meet = λ k h. ap (height ks) (omega arith);
  straight = λ k h. absurd (omega arith);
  convex = λ x from to. let e : power ks (1 - 1) ≡ power ks 0 = ap (power ks) (omega arith) in
      absurd (omega (arith, ints));
}

pub IsPoint-from_knots : (ks : List Knot) → IsPoint (power ks 0) (height ks 0) (table_of ks 1)
IsPoint-from_knots ks = record {
  there = value_inside ks 1 (λ x. height ks 0) (StandFor-one ks) (power ks 0)
      (record {
        some = omega arith;
        from_first = omega (arith, ints);
        to_last =
            let e : power ks (1 - 1) ≡ power ks 0 = ap (power ks) (omega arith) in omega (arith, ints);
      });
  only = λ x v h.
      let i = (inside_value ks 1 (λ z. height ks 0) (StandFor-one ks) x v h).inside in
      let e : power ks (1 - 1) ≡ power ks 0 = ap (power ks) (omega arith) in
      omega (arith, ints);
}
