-- The curve's values block by block.
use Rattle.slope_list.proofs.Common.{◌≡◌, ℕ, zero, suc, ◌+◌, ◌-◌, ◌<◌, ◌≤◌, List, [], ◌∷◌, length, Option, Some, None}
use Rattle.slope_list.proofs.Common.{refl, sym, ap, ◌∙◌, subst, inl, inr, arith, ℤ, pos, ◌+ℤ◌, ◌-ℤ◌, ◌*ℤ◌, ◌≤ℤ◌, ◌<ℤ◌}
use Rattle.slope_list.proofs.Common.{option_map, ints, by_lt_z, cases_lt, Block, Curve, rise_at, curve_value, end_of}
use Rattle.slope_list.proofs.Common.{IsLimitedCurve, IsPlace, IsLine, block, width_to, IsInBlock, IsPrice, HasCosts}
use Rattle.slope_list.proofs.Common.{Span, cost_at}
use Rattle.slope_list.proofs.LineLaws.{lt_is, not_lt_is, times_none, times_split, line_step}
use Rattle.slope_list.proofs.Lookup.{same_some}

pub cost_at_is : (c : Curve) (x v : ℤ) → curve_value c x ≡ Some v → cost_at c x ≡ v
cost_at_is c x v h = rw h

-- what the first j blocks add
abbrev pub rise_to : List Block → ℕ → ℤ
rise_to bs zero = pos 0
rise_to [] (suc j) = pos 0
rise_to (b ∷ bs) (suc j) = (b.price *ℤ b.width) +ℤ rise_to bs j

abbrev pub AreWide : List Block → Type 0
AreWide bs = (k : ℕ) → k < length bs → pos 0 ≤ℤ (block bs k).width

pub wide_tail : (b : Block) (bs : List Block) → AreWide (b ∷ bs) → AreWide bs
wide_tail b bs w k h = w (suc k) (omega arith)

pub width_to-next : (bs : List Block) (j : ℕ) → j < length bs →
    width_to bs (suc j) ≡ width_to bs j +ℤ (block bs j).width
width_to-next [] j h = absurd (omega arith)
width_to-next (b ∷ bs) zero h = omega (arith, ints)
width_to-next (b ∷ bs) (suc j) h = let i = width_to-next bs j (omega arith) in omega (arith, ints)

pub rise_to-next : (bs : List Block) (j : ℕ) → j < length bs →
    rise_to bs (suc j) ≡ rise_to bs j +ℤ ((block bs j).price *ℤ (block bs j).width)
rise_to-next [] j h = absurd (omega arith)
rise_to-next (b ∷ bs) zero h = omega (arith, ints)
rise_to-next (b ∷ bs) (suc j) h = let i = rise_to-next bs j (omega arith) in omega (arith, ints)

pub width_to-positive : (bs : List Block) → AreWide bs → (j : ℕ) → j ≤ length bs → pos 0 ≤ℤ width_to bs j
width_to-positive bs w zero h = omega (arith, ints)
width_to-positive [] w (suc j) h = omega (arith, ints)
width_to-positive (b ∷ bs) w (suc j) h =
    let i = width_to-positive bs (wide_tail b bs w) j (omega arith) in
    let p : pos 0 ≤ℤ b.width = w 0 (omega arith) in
    omega (arith, ints)

pub end_of-width : (from : ℤ) (bs : List Block) → end_of from bs ≡ from +ℤ width_to bs (length bs)
end_of-width from [] = omega (arith, ints)
end_of-width from (b ∷ bs) = let i = end_of-width (from +ℤ b.width) bs in omega (arith, ints)

-- ---- values

-- past the first block, and within it
pub rise_at-past : (b : Block) (bs : List Block) (x : ℤ) → b.width <ℤ x →
    rise_at (b ∷ bs) x ≡ option_map (λ (v : ℤ). v +ℤ (b.price *ℤ b.width)) (rise_at bs (x -ℤ b.width))
rise_at-past b bs x h = rw (lt_is b.width x h)

pub rise_at-inside : (b : Block) (bs : List Block) (x : ℤ) → x ≤ℤ b.width → rise_at (b ∷ bs) x ≡ Some (b.price *ℤ x)
rise_at-inside b bs x h = rw (not_lt_is b.width x h)

rise_at-start : (bs : List Block) → AreWide bs → rise_at bs (pos 0) ≡ Some (pos 0)
rise_at-start [] w = refl
rise_at-start (b ∷ bs) w = rise_at-inside b bs (pos 0) (w 0 (omega arith)) ∙ ap Some (times_none b.price (pos 0) refl)

pub mapped_some : (t : ℤ) (o : Option ℤ) (v : ℤ) → o ≡ Some v → option_map (λ (u : ℤ). u +ℤ t) o ≡ Some (v +ℤ t)
mapped_some t o v h = ap (option_map (λ (u : ℤ). u +ℤ t)) h

-- what stands before a number was added
pub mapped : (k v : ℤ) (o : Option ℤ) → option_map (λ (u : ℤ). u +ℤ k) o ≡ Some v →
    (u : ℤ) × (o ≡ Some u) × (v ≡ u +ℤ k)
mapped k v None h = cc
mapped k v (Some u) h = (u, refl, (cc))

-- past the first block the others' values are added
after_first : (b : Block) (bs : List Block) → AreWide (b ∷ bs) → (x v : ℤ) → pos 0 ≤ℤ x → rise_at bs x ≡ Some v →
    rise_at (b ∷ bs) (b.width +ℤ x) ≡ Some ((b.price *ℤ b.width) +ℤ v)
after_first b bs w x v low h =
    by_lt_z (pos 0) x
    (λ (l : pos 0 <ℤ x).
    let e : rise_at bs ((b.width +ℤ x) -ℤ b.width) ≡ Some v = ap (rise_at bs) (omega (arith, ints)) ∙ h in
    rise_at-past b bs (b.width +ℤ x) (omega (arith, ints)) ∙ mapped_some (b.price *ℤ b.width) _ v e ∙
    ap Some (omega (arith, ints)))
    (λ (l : x ≤ℤ pos 0).
    let z : x ≡ pos 0 = omega (arith, ints) in
    let n : rise_at bs (pos 0) ≡ Some v = ap (rise_at bs) (sym z) ∙ h in
    let none : pos 0 ≡ v = same_some (rise_at bs (pos 0)) (rise_at-start bs (wide_tail b bs w)) n in
    let same : b.price *ℤ (b.width +ℤ x) ≡ b.price *ℤ b.width = ap (λ (y : ℤ). b.price *ℤ y) (omega (arith, ints)) in
    rise_at-inside b bs (b.width +ℤ x) (omega (arith, ints)) ∙ ap Some (omega (arith, ints)))

-- in a block the value rises by its price
pub rise_in_block : (bs : List Block) → AreWide bs → (j : ℕ) → j < length bs → (t : ℤ) → pos 0 ≤ℤ t →
    t ≤ℤ (block bs j).width
    → rise_at bs (width_to bs j +ℤ t) ≡ Some (rise_to bs j +ℤ ((block bs j).price *ℤ t))
rise_in_block [] w j h t low high = absurd (omega arith)
rise_in_block (b ∷ bs) w zero h t low high =
    ap (rise_at (b ∷ bs)) {y = t} (omega (arith, ints)) ∙ rise_at-inside b bs t high ∙ ap Some (omega (arith, ints))
rise_in_block (b ∷ bs) w (suc j) h t low high =
    let i = rise_in_block bs (wide_tail b bs w) j (omega arith) t low high in
    let p = width_to-positive bs (wide_tail b bs w) j (omega arith) in
    ap (rise_at (b ∷ bs)) (omega (arith, ints))
    ∙ after_first b bs w (width_to bs j +ℤ t) (rise_to bs j +ℤ ((block bs j).price *ℤ t)) (omega (arith, ints)) i
    ∙ ap Some (omega (arith, ints))

-- where the first j blocks end
pub rise_at_end : (bs : List Block) → AreWide bs → (j : ℕ) → j ≤ length bs →
    rise_at bs (width_to bs j) ≡ Some (rise_to bs j)
rise_at_end bs w zero h = rise_at-start bs w
rise_at_end [] w (suc j) h = absurd (omega arith)
rise_at_end (b ∷ bs) w (suc j) h =
    after_first b bs w (width_to bs j) (rise_to bs j) (width_to-positive bs (wide_tail b bs w) j (omega arith))
    (rise_at_end bs (wide_tail b bs w) j (omega arith))

-- ---- the curve

pub wide_of : (c : Curve) → IsLimitedCurve c → AreWide c.blocks.items
wide_of c l k h = l.blocks.widths k (record { width = pos 0; price = pos 0 }) h

pub width_to-rises : (bs : List Block) → AreWide bs → (d i j : ℕ) → j ≡ i + d → j ≤ length bs →
    width_to bs i ≤ℤ width_to bs j
width_to-rises bs w zero i j e h =
    let same : width_to bs j ≡ width_to bs i = ap (width_to bs) {x = j} {y = i} (omega arith) in omega (arith, ints)
width_to-rises bs w (suc d) i j e h =
    let before : width_to bs i ≤ℤ width_to bs (i + d) = width_to-rises bs w d i (i + d) refl (omega arith) in
    let next = width_to-next bs (i + d) (omega arith) in
    let wide = w (i + d) (omega arith) in
    let same : width_to bs j ≡ width_to bs (suc (i + d)) = ap (width_to bs) {x = j} {y = suc (i + d)} (omega arith) in
    omega (arith, ints)

pub width_to-rises_to : (bs : List Block) → AreWide bs → (i j : ℕ) → i ≤ j → j ≤ length bs →
    width_to bs i ≤ℤ width_to bs j
width_to-rises_to bs w i j l h = width_to-rises bs w (j - i) i j (omega arith) h

-- a value at a power of the curve
pub curve_value_is : (c : Curve) (x v : ℤ) → c.at ≤ℤ x → rise_at c.blocks.items (x -ℤ c.at) ≡ Some v →
    curve_value c x ≡ Some (v +ℤ c.value)
curve_value_is c x v low h =
    let e : curve_value c x ≡ option_map (λ (u : ℤ). u +ℤ c.value) (rise_at c.blocks.items (x -ℤ c.at)) =
    rw (not_lt_is x c.at low) in
    e ∙ mapped_some c.value (rise_at c.blocks.items (x -ℤ c.at)) v h

module _ (c : Curve) (w : AreWide c.blocks.items) (j : ℕ) (inside : j < length c.blocks.items) where
  -- at a power of the block
  pub value_in_block : (x : ℤ) → (c.at +ℤ width_to c.blocks.items j) ≤ℤ x →
      x ≤ℤ (c.at +ℤ width_to c.blocks.items (suc j))
      → curve_value c x ≡ Some
      ((rise_to c.blocks.items j +ℤ ((block c.blocks.items j).price *ℤ (x -ℤ (c.at +ℤ width_to c.blocks.items j))))
      +ℤ c.value)
  value_in_block x low high =
      let next = width_to-next c.blocks.items j inside in
      let positive = width_to-positive c.blocks.items w j (omega arith) in
      let t = x -ℤ (c.at +ℤ width_to c.blocks.items j) in
      let r = rise_in_block c.blocks.items w j inside t (omega (arith, ints)) (omega (arith, ints)) in
      let e : rise_at c.blocks.items (x -ℤ c.at) ≡ Some
      (rise_to c.blocks.items j +ℤ ((block c.blocks.items j).price *ℤ t)) =
      ap (rise_at c.blocks.items) {x = x -ℤ c.at} {y = width_to c.blocks.items j +ℤ t} (omega (arith, ints)) ∙
      r in
      curve_value_is c x (rise_to c.blocks.items j +ℤ ((block c.blocks.items j).price *ℤ t)) (omega (arith, ints)) e

  pub cost_line : (a b : ℤ) → a <ℤ b → (c.at +ℤ width_to c.blocks.items j) ≤ℤ a →
      b ≤ℤ (c.at +ℤ width_to c.blocks.items (suc j)) → IsLine (cost_at c) a b (block c.blocks.items j).price
  cost_line a b rise low high =
      let p = (block c.blocks.items j).price in
      let s = c.at +ℤ width_to c.blocks.items j in
      record {
        rise = rise;
        line = λ x from to.
            let u = cost_at_is c x _ (value_in_block x (omega (arith, ints)) (omega (arith, ints))) in
            let v = cost_at_is c a _ (value_in_block a low (omega (arith, ints))) in
            let e = times_split p (a -ℤ s) (x -ℤ a) (x -ℤ s) (omega (arith, ints)) in
            omega (arith, ints);
      }

-- in a block the cost is a line
pub cost_in : (c : Curve) → IsLimitedCurve c → (a b : ℤ) (span : Span) → a <ℤ b → IsInBlock c a span → b ≤ℤ span.end →
    IsLine (cost_at c) a b span.price
cost_in c limited a b span rise i within =
    let ends = i.ends in
    subst (λ (z : ℤ). IsLine (cost_at c) a b z) (sym i.price)
    (cost_line c (wide_of c limited) span.index i.inside a b rise i.begun (omega (arith, ints)))

-- the price of a block at a power of which the curve has costs
pub price_within : (c : Curve) → IsLimitedCurve c → (a b : ℤ) (span : Span) → a <ℤ b → IsInBlock c a span →
    b ≤ℤ span.end → HasCosts c a b → IsPrice span.price
price_within c limited a b span rise i within costs =
    let line = cost_in c limited a b span rise i within in
    let step = line_step (cost_at c) a b span.price a line (omega (arith, ints)) rise in
    let u = costs a (omega (arith, ints)) (omega (arith, ints)) in
    let v = costs (a +ℤ pos 1) (omega (arith, ints)) (omega (arith, ints)) in
    let eu = cost_at_is c a u.0 u.1 in
    let ev = cost_at_is c (a +ℤ pos 1) v.0 v.1 in
    record { at_least = omega (arith, ints); at_most = omega (arith, ints) }

-- a power of the curve
pub up_to_width : (bs : List Block) (x v : ℤ) → AreWide bs → rise_at bs x ≡ Some v → x ≤ℤ width_to bs (length bs)
up_to_width [] x v w h = by_lt_z (pos 0) x (λ (l : pos 0 <ℤ x). let n : rise_at [] x ≡ None = rw (lt_is (pos 0) x l) in
    cc) (λ (l : x ≤ℤ pos 0). l)
up_to_width (b ∷ bs) x v w h =
    by_lt_z b.width x
    (λ (l : b.width <ℤ x).
    let m = mapped (b.price *ℤ b.width) v (rise_at bs (x -ℤ b.width)) (sym (rise_at-past b bs x l) ∙ h) in
    let i = up_to_width bs (x -ℤ b.width) m.0 (wide_tail b bs w) m.1 in
    omega (arith, ints))
    (λ (l : x ≤ℤ b.width). let p = width_to-positive bs (wide_tail b bs w) (length bs) (omega arith) in
    omega (arith, ints))

pub record IsWithinCurve (c : Curve) (x : ℤ) : Type 0 where
  pub from : c.at ≤ℤ x
  pub to : x ≤ℤ (c.at +ℤ width_to c.blocks.items (length c.blocks.items))

pub on_curve : (c : Curve) (x v : ℤ) → AreWide c.blocks.items → curve_value c x ≡ Some v → IsWithinCurve c x
on_curve c x v w h = by_lt_z x c.at
    (λ (l : x <ℤ c.at). let n : curve_value c x ≡ None = rw (lt_is x c.at l) in cc)
    (λ (l : c.at ≤ℤ x).
    let e : curve_value c x ≡ option_map (λ (u : ℤ). u +ℤ c.value) (rise_at c.blocks.items (x -ℤ c.at)) =
    rw (not_lt_is x c.at l) in
    let m = mapped c.value v (rise_at c.blocks.items (x -ℤ c.at)) (sym e ∙ h) in
    let i = up_to_width c.blocks.items (x -ℤ c.at) m.0 w m.1 in
    record { from = l; to = omega (arith, ints) })

-- a block that ends within the curve isn't the last
pub block_more : (c : Curve) (at : ℤ) (span : Span) (x : ℤ) → IsInBlock c at span → span.end <ℤ x → IsWithinCurve c x →
    suc span.index < length c.blocks.items
block_more c at span x i l o =
    elim (cases_lt (suc span.index) (length c.blocks.items)) [
      | inl h ↦ h
      | inr h ↦
          absurd (let e = ap (width_to c.blocks.items) {x = suc span.index} {y = length c.blocks.items} (omega arith) in
          omega (arith, ints))
    ]

pub block_next : (c : Curve) (at : ℤ) (span : Span) (end price : ℤ) → IsInBlock c at span → span.end ≤ℤ at →
    suc span.index < length c.blocks.items → end ≡ span.end +ℤ (block c.blocks.items (suc span.index)).width →
    price ≡ (block c.blocks.items (suc span.index)).price
    → IsInBlock c at (record { index = suc span.index; end = end; price = price })
block_next c at span end price i passed more is price_is =
    let ends = i.ends in
    let next = width_to-next c.blocks.items (suc span.index) more in
    record { inside = more; begun = omega (arith, ints); ends = omega (arith, ints); price = price_is }

-- where a block ends is a power
pub block_power : (c : Curve) → IsLimitedCurve c → (j : ℕ) → j ≤ length c.blocks.items →
    IsPlace (c.at +ℤ width_to c.blocks.items j)
block_power c limited j h =
    let w = wide_of c limited in
    let low = width_to-positive c.blocks.items w j h in
    let high = width_to-rises_to c.blocks.items w j (length c.blocks.items) h (omega arith) in
    let e = end_of-width c.at c.blocks.items in
    (omega (arith, ints), omega (arith, ints))

-- a later power is past the block's start too
pub in_block_at : (c : Curve) (at : ℤ) (span : Span) → IsInBlock c at span → (at' : ℤ) → at ≤ℤ at' →
    IsInBlock c at' span
in_block_at c at span i at' later =
    let begun = i.begun in
    record { inside = i.inside; begun = omega (arith, ints); ends = i.ends; price = i.price }
