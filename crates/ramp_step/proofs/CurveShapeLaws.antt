-- A curve of blocks is the term that the step on knots adds.
use Rattle.ramp_step.proofs.Common.{◌≡◌, ℕ, zero, suc, ◌<◌, ◌≤◌, List, [], ◌∷◌, length, Option, Some, None, true, false}
use Rattle.ramp_step.proofs.Common.{refl, sym, ap, ◌∙◌, subst, arith, ℤ, pos, ◌+ℤ◌, ◌-ℤ◌, ◌*ℤ◌, ◌≤ℤ◌, ◌<ℤ◌, int_lt}
use Rattle.ramp_step.proofs.Common.{option_map, ints, by_lt_z, Block, Curve, rise_at, curve_value, end_of, CanAddCurve}
use Rattle.ramp_step.proofs.Common.{IsWithinLimits, IsAmount, Knot, power, StandFor, IsShape, IsInside, CanAdd}
use Rattle.ramp_step.proofs.Common.{rise_over, curve_term, block_end, AreBlocks, AreLimitedBlocks, IsOver, table_of}
use Rattle.uc_model.specs.Limits.{IsCurve}
use Rattle.slope_list.specs.Curve as curves
use Rattle.ramp_step.proofs.KnotLaws.{is_inside}
use Rattle.ramp_step.proofs.CurveLaws.{rise_left, rise_right, rise_zero, block_end_far}
use Rattle.ramp_step.proofs.ShapeLaws.{value_inside}

pub lt_is : (a b : ℤ) → a <ℤ b → int_lt a b ≡ true
lt_is a b h = grind (arith, ints)

pub not_lt_is : (a b : ℤ) → b ≤ℤ a → int_lt a b ≡ false
not_lt_is a b h = grind (arith, ints)

pub rise_past : (b : Block) (bs : List Block) (x : ℤ) → b.width <ℤ x →
    rise_at (b ∷ bs) x ≡ option_map (λ v. v +ℤ (b.price *ℤ b.width)) (rise_at bs (x -ℤ b.width))
rise_past b bs x h = rw (lt_is b.width x h)

rise_within : (b : Block) (bs : List Block) (x : ℤ) → x ≤ℤ b.width → rise_at (b ∷ bs) x ≡ Some (b.price *ℤ x)
rise_within b bs x h = rw (not_lt_is b.width x h)

pub mapped : (k v : ℤ) (o : Option ℤ) → option_map (λ u. u +ℤ k) o ≡ Some v → (u : ℤ) × (o ≡ Some u)
mapped k v None h = cc
mapped k v (Some u) h = (u, refl)

step_on : (x s w : ℤ) → (x -ℤ s) -ℤ w ≡ x -ℤ (s +ℤ w)
step_on x s w = omega (arith, ints)

-- what the blocks add is the rise over them
rise_at_is : (p : ℤ) (bs : List Block) (s x : ℤ) → AreBlocks p bs → s ≤ℤ x → x ≤ℤ block_end bs s (length bs) →
    rise_at bs (x -ℤ s) ≡ Some (rise_over bs s x)
rise_at_is p [] s x are low high = let e : x -ℤ s ≡ pos 0 = omega (arith, ints) in ap (rise_at []) e
rise_at_is p (b ∷ bs) s x are low high =
    by_lt_z b.width (x -ℤ s)
    (λ past.
    let rest = ap (rise_at bs) (step_on x s b.width) ∙
    rise_at_is b.price bs (s +ℤ b.width) x are.2 (omega (arith, ints)) high in
    let right = rise_right b bs s x (omega (arith, ints)) in
    let sum : rise_over bs (s +ℤ b.width) x +ℤ (b.price *ℤ b.width) ≡ rise_over (b ∷ bs) s x = omega (arith, ints) in
    rise_past b bs (x -ℤ s) past ∙ ap (option_map (λ v. v +ℤ (b.price *ℤ b.width))) rest ∙ ap Some sum)
    (λ within.
    let left = rise_left b bs s x (omega (arith, ints)) in
    let none = rise_zero b.price bs (s +ℤ b.width) are.2 in
    let sum : b.price *ℤ (x -ℤ s) ≡ rise_over (b ∷ bs) s x = omega (arith, ints) in
    rise_within b bs (x -ℤ s) within ∙ ap Some sum)

-- the blocks add nothing past their end
up_to_end : (p : ℤ) (bs : List Block) (s x v : ℤ) → AreBlocks p bs → rise_at bs (x -ℤ s) ≡ Some v →
    x ≤ℤ block_end bs s (length bs)
up_to_end p [] s x v are h =
    by_lt_z (pos 0) (x -ℤ s)
    (λ past. let n : rise_at [] (x -ℤ s) ≡ None = rw (lt_is (pos 0) (x -ℤ s) past) in
    absurd (let q = sym n ∙ h in (cc)))
    (λ upto. omega (arith, ints))
up_to_end p (b ∷ bs) s x v are h =
    by_lt_z b.width (x -ℤ s)
    (λ past.
    let u = mapped (b.price *ℤ b.width) v (rise_at bs ((x -ℤ s) -ℤ b.width)) (sym (rise_past b bs (x -ℤ s) past) ∙ h) in
    up_to_end b.price bs (s +ℤ b.width) x u.0 are.2 (ap (rise_at bs) (sym (step_on x s b.width)) ∙ u.1))
    (λ within. let far = block_end_far b.price bs (s +ℤ b.width) (length bs) are.2 in omega (arith, ints))

-- ---- blocks by their list

later : (b : Block) (bs : List Block) → IsCurve (b ∷ bs) → IsCurve bs
later b bs c = record {
  widths = λ k d h. c.widths (suc k) d (omega arith);
  rising =
      λ k d h. c.rising (suc k) d (omega arith);
}

AreBlocks-from : (b : Block) (bs : List Block) → IsCurve (b ∷ bs) → AreBlocks b.price (b ∷ bs)
AreBlocks-from b [] c = (omega (arith, ints), c.widths 0 b (omega arith), tt)
AreBlocks-from b (d ∷ bs) c =
    let r = AreBlocks-from d bs (later b (d ∷ bs) c) in
    (omega (arith, ints), c.widths 0 b (omega arith), (c.rising 0 b (omega arith), r.1, r.2))

pub are_blocks : (bs : List Block) → IsCurve bs → (p : ℤ) × AreBlocks p bs
are_blocks [] c = (pos 0, tt)
are_blocks (b ∷ bs) c = (b.price, AreBlocks-from b bs c)

pub end_is : (bs : List Block) (s : ℤ) → block_end bs s (length bs) ≡ end_of s bs
end_is [] s = refl
end_is (b ∷ bs) s = end_is bs (s +ℤ b.width)

pub end_shifted : (bs : List Block) (s d : ℤ) → block_end bs (s -ℤ d) (length bs) ≡ block_end bs s (length bs) -ℤ d
end_shifted [] s d = refl
end_shifted (b ∷ bs) s d = ap (λ (z : ℤ). block_end bs z (length bs)) (omega (arith, ints)) ∙
    end_shifted bs (s +ℤ b.width) d

-- a block ends at the last end or before it
up_to_last : (p : ℤ) (bs : List Block) (s : ℤ) (j : ℕ) → AreBlocks p bs → j ≤ length bs →
    block_end bs s j ≤ℤ block_end bs s (length bs)
up_to_last p bs s zero are h = block_end_far p bs s (length bs) are
up_to_last p [] s (suc j) are h = absurd (omega arith)
up_to_last p (b ∷ bs) s (suc j) are h = up_to_last b.price bs (s +ℤ b.width) j are.2 (omega arith)

-- ---- the curve at a power that is moved by the shift

moved : (x shift at : ℤ) → (x +ℤ shift) -ℤ at ≡ x -ℤ (at -ℤ shift)
moved x shift at = omega (arith, ints)

pub curve_value_is : (c : Curve) (shift p x : ℤ) → AreBlocks p c.blocks.items → (c.at -ℤ shift) ≤ℤ x →
    x ≤ℤ block_end c.blocks.items (c.at -ℤ shift) (length c.blocks.items)
    → curve_value c (x +ℤ shift) ≡ Some (curve_term c.value c.blocks.items (c.at -ℤ shift) x)
curve_value_is c shift p x are low high =
    let bs = c.blocks.items in
    let s = c.at -ℤ shift in
    let e : curve_value c (x +ℤ shift) ≡ option_map (λ v. v +ℤ c.value) (rise_at bs ((x +ℤ shift) -ℤ c.at)) =
    rw (not_lt_is (x +ℤ shift) c.at (omega (arith, ints))) in
    let r = ap (rise_at bs) (moved x shift c.at) ∙ rise_at_is p bs s x are low high in
    e ∙ ap (option_map (λ v. v +ℤ c.value)) r ∙ ap Some (omega (arith, ints))

-- a power where the curve has a value is on its blocks
on_blocks : (c : Curve) (shift p x v : ℤ) → AreBlocks p c.blocks.items → curve_value c (x +ℤ shift) ≡ Some v
    → ((c.at -ℤ shift) ≤ℤ x) × (x ≤ℤ block_end c.blocks.items (c.at -ℤ shift) (length c.blocks.items))
on_blocks c shift p x v are h =
    let bs = c.blocks.items in
    by_lt_z (x +ℤ shift) c.at
    (λ before. let n : curve_value c (x +ℤ shift) ≡ None = rw (lt_is (x +ℤ shift) c.at before) in
    absurd (let q = sym n ∙ h in (cc)))
    (λ from.
    let e : curve_value c (x +ℤ shift) ≡ option_map (λ u. u +ℤ c.value) (rise_at bs ((x +ℤ shift) -ℤ c.at)) =
    rw (not_lt_is (x +ℤ shift) c.at from) in
    let u = mapped c.value v (rise_at bs ((x +ℤ shift) -ℤ c.at)) (sym e ∙ h) in
    (omega (arith, ints), up_to_end p bs (c.at -ℤ shift) x u.0 are (ap (rise_at bs) (sym (moved x shift c.at)) ∙ u.1)))

-- ---- what the step asks of a curve that may be added to the table of some knots

module _ (c : Curve) (shift : ℤ) (ks : List Knot) (n : ℕ) (some : 0 < n) (shape : IsShape ks n)
    (within : IsWithinLimits (table_of ks n))
    (limited : curves.IsLimitedCurve c) (fits : CanAddCurve (curve_value c) shift (table_of ks n)) where
  lowest : (p : ℤ) × AreBlocks p c.blocks.items
  lowest = are_blocks c.blocks.items limited.blocks

  pub IsOver-curve : IsOver c.blocks.items (c.at -ℤ shift) ks n
  IsOver-curve x h =
      let v = value_inside ks n shape.0 shape.1 x h in
      let r = fits x (shape.0 x) v in
      on_blocks c shift lowest.0 x r.0 lowest.1 r.1

  pub curve_on : (x : ℤ) → IsInside ks n x →
      curve_value c (x +ℤ shift) ≡ Some (curve_term c.value c.blocks.items (c.at -ℤ shift) x)
  curve_on x h = let o = IsOver-curve x h in curve_value_is c shift lowest.0 x lowest.1 o.0 o.1

  pub CanAdd-curve : (f : ℤ → ℤ) → StandFor ks n f → CanAdd (curve_term c.value c.blocks.items (c.at -ℤ shift)) ks n f
  CanAdd-curve f s x h =
      let v = value_inside ks n f s x h in
      let r = fits x (f x) v in
      let same : r.0 ≡ curve_term c.value c.blocks.items (c.at -ℤ shift) x = (let e = sym r.1 ∙ curve_on x h in cc) in
      ((within x (f x) v).0, (within x (f x) v).1, subst (λ (z : ℤ). IsAmount (f x +ℤ z)) same r.2)

  pub AreLimitedBlocks-curve : AreLimitedBlocks c.value c.blocks.items (c.at -ℤ shift)
  AreLimitedBlocks-curve =
      let bs = c.blocks.items in
      let s = c.at -ℤ shift in
      let p = lowest.0 in
      let are = lowest.1 in
      let first = is_inside ks n shape.0 0 shape.1 some in
      let o = IsOver-curve (power ks 0) first in
      let near =
      (within (power ks 0) (shape.0 (power ks 0)) (value_inside ks n shape.0 shape.1 (power ks 0) first)).0 in
      let end = end_shifted bs c.at shift in
      let last = end_is bs c.at in
      record {
        lowest = p;
        blocks = are;
        ends = λ j h.
            let low = block_end_far p bs s j are in
            let high = up_to_last p bs s j are h in
            (omega (arith, ints), omega (arith, ints));
        values = λ j h.
            let x = block_end bs s j in
            limited.values (x +ℤ shift) (curve_term c.value bs s x)
            (curve_value_is c shift p x are (block_end_far p bs s j are) (up_to_last p bs s j are h));
      }
