-- The value of a curve at a power, found block by block.
use Rattle.test_shapes.proofs.Common.{◌≡◌, inl, inr, ℤ, pos, ◌+ℤ◌, ◌-ℤ◌, ◌*ℤ◌, ◌≤ℤ◌, ◌<ℤ◌, Option, Some, None, IsSome}
use Rattle.test_shapes.proofs.Common.{List, [], ◌∷◌, refl, sym, ap, ◌∙◌, subst, arith, ints, *ℤ-zero, option_map, Block}
use Rattle.test_shapes.proofs.Common.{Curve, rise_at, curve_value, IsFrom, IsAmount, CanEvaluate}
use Rattle.cost_curve.proofs.CurveLaws.{AreWide, head_wide, tail_wide, end_is, rise_in, rise_past, in_or_past}
use Rattle.cost_curve.proofs.ValueLaws.{some_inside, before_end, after_start, value_at, before_last}

rise_zero : (bs : List Block) → AreWide bs → rise_at bs (pos 0) ≡ Some (pos 0)
rise_zero [] h = refl
rise_zero (b ∷ bs) h = rise_in b bs (pos 0) (head_wide b bs h) ∙ ap Some (*ℤ-zero b.price)

-- what is known at the start of the remaining blocks
pub record IsReached (found : Option ℤ) (bs : List Block) (value rest : ℤ) : Type 0 where
  pub least : pos 0 ≤ℤ rest
  pub most : rest ≤ℤ pos 8000000000
  pub widths : AreWide bs
  pub is : found ≡ option_map (λ (v : ℤ). v +ℤ value) (rise_at bs rest)
  pub amounts : (y v : ℤ) → pos 0 ≤ℤ y → rise_at bs y ≡ Some v → IsAmount (value +ℤ v)

turned : (a b : ℤ) → IsAmount (a +ℤ b) → IsAmount (b +ℤ a)
turned a b h = let e : a +ℤ b ≡ b +ℤ a = omega (arith, ints) in subst IsAmount e h

module _ (c : Curve) (x : ℤ) (inside : IsSome (curve_value c x)) where
  pub IsReached-start : CanEvaluate c → IsReached (curve_value c x) c.blocks.items c.value (x -ℤ c.at)
  IsReached-start can =
      let low = after_start c x inside in
      let known = value_at c x inside x low in
      let end = end_is c.at c.blocks.items in
      let reach = before_last c x inside can.widths in
      let first = can.first_power.at_least in
      let last = can.last_power.at_most in
      record {
        least = omega (arith, ints, low);
        most = omega (arith, ints, reach, end, first, last);
        widths = can.widths;
        is = known;
        amounts = λ y v y_least e.
            let z : ℤ = c.at +ℤ y in
            let off : z -ℤ c.at ≡ y = omega (arith, ints) in
            let there = value_at c x inside z (omega (arith, ints, y_least)) ∙
            ap (λ (d : ℤ). option_map (λ (u : ℤ). u +ℤ c.value) (rise_at c.blocks.items d)) off ∙
            ap (option_map (λ (u : ℤ). u +ℤ c.value)) e in
            turned v c.value (can.values z (v +ℤ c.value) there);
      }

module _ (found : Option ℤ) (b : Block) (bs : List Block) (value rest : ℤ)
    (known : IsReached found (b ∷ bs) value rest) where
  pub value_amount : IsAmount value
  value_amount =
      let h = known.amounts (pos 0) (pos 0) (omega (arith, ints)) (rise_zero (b ∷ bs) known.widths) in
      let e : value +ℤ pos 0 ≡ value = omega (arith, ints) in
      subst IsAmount e h

  -- the power lies in the block
  pub near_amount : rest ≤ℤ b.width → IsAmount (value +ℤ (b.price *ℤ rest))
  near_amount near = known.amounts rest (b.price *ℤ rest) known.least (rise_in b bs rest near)

  pub near_value : rest ≤ℤ b.width → found ≡ Some (value +ℤ (b.price *ℤ rest))
  near_value near =
      let e : (b.price *ℤ rest) +ℤ value ≡ value +ℤ (b.price *ℤ rest) = omega (arith, ints) in
      known.is ∙ ap (option_map (λ (v : ℤ). v +ℤ value)) (rise_in b bs rest near) ∙ ap Some e

  -- or past it
  pub width_power : b.width <ℤ rest → IsFrom (pos 0) (pos 8000000000) b.width
  width_power far = let h = head_wide b bs known.widths in let m = known.most in
      record { at_least = h; at_most = omega (arith, ints, far, m) }

  pub far_amount : IsAmount (value +ℤ (b.price *ℤ b.width))
  far_amount = known.amounts b.width (b.price *ℤ b.width) (head_wide b bs known.widths)
      (rise_in b bs b.width (omega (arith, ints)))

  twice : (o : Option ℤ) (g : ℤ) → option_map (λ (v : ℤ). v +ℤ value) (option_map (λ (v : ℤ). v +ℤ g) o) ≡ option_map
      (λ (v : ℤ). v +ℤ (value +ℤ g)) o
  twice None g = refl
  twice (Some u) g = let e : (u +ℤ g) +ℤ value ≡ u +ℤ (value +ℤ g) = omega (arith, ints) in ap Some e

  far_amounts : (y v : ℤ) → pos 0 ≤ℤ y → rise_at bs y ≡ Some v → IsAmount ((value +ℤ (b.price *ℤ b.width)) +ℤ v)
  far_amounts y v least e =
      let g : ℤ = b.price *ℤ b.width in
      elim (in_or_past (pos 0) y) [
        | inl low ↦
            let none : y ≡ pos 0 = omega (arith, ints, low, least) in
            let zero_is : Some v ≡ Some (pos 0) = sym e ∙ ap (rise_at bs) none ∙
            rise_zero bs (tail_wide b bs known.widths) in
            let v_is : v ≡ pos 0 = cc in
            let sum : value +ℤ g ≡ (value +ℤ g) +ℤ v = omega (arith, ints, v_is) in
            subst IsAmount sum far_amount
        | inr up ↦
            let x : ℤ = b.width +ℤ y in
            let back : x -ℤ b.width ≡ y = omega (arith, ints) in
            let there = rise_past b bs x (omega (arith, ints, up)) ∙
            ap (λ (d : ℤ). option_map (λ (u : ℤ). u +ℤ g) (rise_at bs d)) back ∙
            ap (option_map (λ (u : ℤ). u +ℤ g)) e in
            let h = known.amounts x (v +ℤ g) (let w = head_wide b bs known.widths in omega (arith, ints, w, up))
            there in
            let sum : value +ℤ (v +ℤ g) ≡ (value +ℤ g) +ℤ v = omega (arith, ints) in
            subst IsAmount sum h
      ]

  pub IsReached-past : b.width <ℤ rest → IsReached found bs (value +ℤ (b.price *ℤ b.width)) (rest -ℤ b.width)
  IsReached-past far =
      let w = head_wide b bs known.widths in
      let m = known.most in
      record {
        least = omega (arith, ints, far);
        most = omega (arith, ints, w, m);
        widths = tail_wide b bs known.widths;
        is = known.is ∙ ap (option_map (λ (v : ℤ). v +ℤ value)) (rise_past b bs rest far) ∙
            twice (rise_at bs (rest -ℤ b.width)) (b.price *ℤ b.width);
        amounts = far_amounts;
      }

-- no block is left
pub found_end : (found : Option ℤ) (value rest : ℤ) → IsReached found [] value rest → IsSome found → found ≡ Some value
found_end found value rest known some =
    let top = before_end [] rest known.widths (some_inside (rise_at [] rest) value (subst IsSome known.is some)) in
    let least = known.least in
    let none : rest ≡ pos 0 = omega (arith, ints, top, least) in
    let e : pos 0 +ℤ value ≡ value = omega (arith, ints) in
    known.is ∙ ap (λ (d : ℤ). option_map (λ (v : ℤ). v +ℤ value) (rise_at [] d)) none ∙ ap Some e
