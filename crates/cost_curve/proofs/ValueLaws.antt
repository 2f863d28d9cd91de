-- A curve has values at the powers from its first to its last.
use Rattle.cost_curve.proofs.Common.{◌≡◌, inl, inr, ℤ, pos, ◌+ℤ◌, ◌-ℤ◌, ◌*ℤ◌, ◌≤ℤ◌, Bool, true, false, cond, Option}
use Rattle.cost_curve.proofs.Common.{Some, None, IsSome, List, [], ◌∷◌, ap, subst, arith, ints, int_lt, is_some}
use Rattle.cost_curve.proofs.Common.{option_map, Block, Curve, rise_at, curve_value, width_of}
use Rattle.cost_curve.proofs.CurveLaws.{AreWide, tail_wide, width_least, rise_past, in_or_past}

is_not_some : IsSome {T = ℤ} None → ⊥
is_not_some h = cc

pub some_inside : (o : Option ℤ) (g : ℤ) → IsSome (option_map (λ (v : ℤ). v +ℤ g) o) → IsSome o
some_inside None g h = h
some_inside (Some v) g h = h

pub is_some_of : (o : Option ℤ) (v : ℤ) → o ≡ Some v → IsSome o
is_some_of o v e = ap is_some e

pub before_end : (bs : List Block) (y : ℤ) → AreWide bs → IsSome (rise_at bs y) → y ≤ℤ width_of bs
before_end [] y h some = elim (in_or_past (pos 0) y) [
  | inl low ↦ low
  | inr up ↦ let t : int_lt (pos 0) y ≡ true = grind (arith, ints) in
      absurd (is_not_some (subst IsSome (ap (λ (q : Bool). cond q None (Some (pos 0))) t) some))
]
before_end (b ∷ bs) y h some =
    let t = tail_wide b bs h in
    let r = width_least bs t in
    elim (in_or_past b.width y) [
      | inl low ↦ omega (arith, ints, low, r)
      | inr up ↦
          let i = before_end bs (y -ℤ b.width) t
          (some_inside (rise_at bs (y -ℤ b.width)) (b.price *ℤ b.width)
          (subst IsSome (rise_past b bs y up) some)) in omega (arith, ints, i)
    ]

module _ (c : Curve) (x : ℤ) (inside : IsSome (curve_value c x)) where
  pub after_start : c.at ≤ℤ x
  after_start =
      elim (in_or_past x c.at) [
        | inr up ↦ let t : int_lt x c.at ≡ true = grind (arith, ints) in
            absurd (is_not_some
            (subst IsSome
            (ap (λ (q : Bool). cond q None
            (option_map (λ (v : ℤ). v +ℤ c.value) (rise_at c.blocks.items (x -ℤ c.at)))) t) inside))
        | inl low ↦ omega (arith, ints, low)
      ]

  pub value_at : (z : ℤ) → c.at ≤ℤ z →
      curve_value c z ≡ option_map (λ (v : ℤ). v +ℤ c.value) (rise_at c.blocks.items (z -ℤ c.at))
  value_at z low =
      let f : int_lt z c.at ≡ false = grind (arith, ints) in
      ap (λ (q : Bool). cond q None (option_map (λ (v : ℤ). v +ℤ c.value) (rise_at c.blocks.items (z -ℤ c.at)))) f

  pub before_last : AreWide c.blocks.items → x ≤ℤ (c.at +ℤ width_of c.blocks.items)
  before_last wide =
      let low = after_start in
      let known = value_at x low in
      let reach = before_end c.blocks.items (x -ℤ c.at) wide
      (some_inside (rise_at c.blocks.items (x -ℤ c.at)) c.value (subst IsSome known inside)) in
      omega (arith, ints, reach)
