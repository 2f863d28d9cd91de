-- A curve is straight within a block, and convex where prices don't fall.
use Rattle.ramp_step.proofs.Common.{◌≡◌, ℕ, zero, suc, ◌+◌, ◌<◌, ◌≤◌, List, [], ◌∷◌, length, get_or, refl, sym, ap, ◌∙◌}
use Rattle.ramp_step.proofs.Common.{subst, arith, inl, inr, to_z, of_z, ℤ, pos, ◌+ℤ◌, ◌-ℤ◌, ◌*ℤ◌, ◌≤ℤ◌, ◌<ℤ◌, w64}
use Rattle.ramp_step.proofs.Common.{int_min, int_max, ints, clamps, by_lt_z, cases_lt, *ℤ-zero, Knot, Block, IsStraight}
use Rattle.ramp_step.proofs.Common.{IsConvex, IsWide, IsAmount, IsSplit, rise_over, curve_term, block_end, AreBlocks}
use Rattle.ramp_step.proofs.Common.{EndsOutside, IsRefined, AreLimitedBlocks}
use Rattle.ramp_step.proofs.TimesLaws.{times_prev, times_one, straight_product}
use Rattle.ramp_step.proofs.DivLaws.{amount_part}
use Rattle.ramp_step.proofs.KnotLaws.{HaveSameEnds-then}

pub rise_left : (b : Block) (bs : List Block) (s x : ℤ) → x ≤ℤ (s +ℤ b.width) →
    rise_over (b ∷ bs) s x ≡ b.price *ℤ (x -ℤ s) +ℤ rise_over bs (s +ℤ b.width) (s +ℤ b.width)
rise_left b bs s x h =
    let m : int_min (x -ℤ s) b.width ≡ x -ℤ s = omega (arith, ints, clamps) in
    let n : int_max x (s +ℤ b.width) ≡ s +ℤ b.width = omega (arith, ints, clamps) in
    ap (λ z. b.price *ℤ z +ℤ rise_over bs (s +ℤ b.width) (int_max x (s +ℤ b.width))) m
    ∙ ap (λ z. b.price *ℤ (x -ℤ s) +ℤ rise_over bs (s +ℤ b.width) z) n

pub rise_right : (b : Block) (bs : List Block) (s x : ℤ) → (s +ℤ b.width) ≤ℤ x →
    rise_over (b ∷ bs) s x ≡ b.price *ℤ b.width +ℤ rise_over bs (s +ℤ b.width) x
rise_right b bs s x h =
    let m : int_min (x -ℤ s) b.width ≡ b.width = omega (arith, ints, clamps) in
    let n : int_max x (s +ℤ b.width) ≡ x = omega (arith, ints, clamps) in
    ap (λ z. b.price *ℤ z +ℤ rise_over bs (s +ℤ b.width) (int_max x (s +ℤ b.width))) m
    ∙ ap (λ z. b.price *ℤ b.width +ℤ rise_over bs (s +ℤ b.width) z) n

-- where no block ends in between, the rise is straight
pub rise_straight : (bs : List Block) (s lo hi : ℤ) → EndsOutside bs s (length bs) lo hi →
    IsStraight lo hi (rise_over bs s)
rise_straight [] s lo hi out x low high = omega (arith, ints)
rise_straight (b ∷ bs) s lo hi out x low high =
    elim (out 0 (omega arith)) [
      | inl left ↦
          let e = rise_left b bs s x (omega (arith, ints)) in
          let e0 = rise_left b bs s (x -ℤ pos 1) (omega (arith, ints)) in
          let e1 = rise_left b bs s (x +ℤ pos 1) (omega (arith, ints)) in
          let l = straight_product b.price s x in
          omega (arith, ints)
      | inr right ↦
          let e = rise_right b bs s x (omega (arith, ints)) in
          let e0 = rise_right b bs s (x -ℤ pos 1) (omega (arith, ints)) in
          let e1 = rise_right b bs s (x +ℤ pos 1) (omega (arith, ints)) in
          let rest = rise_straight bs (s +ℤ b.width) lo hi (λ i h. out (suc i) (omega arith)) x low high in
          omega (arith, ints)
    ]

-- the first slope is a price, so no less than p
first_slope : (p : ℤ) (bs : List Block) (s : ℤ) → AreBlocks p bs → s <ℤ block_end bs s (length bs) →
    p ≤ℤ (rise_over bs s (s +ℤ pos 1) -ℤ rise_over bs s s)
first_slope p [] s are h = absurd (omega (arith, ints))
first_slope p (b ∷ bs) s are h =
    by_lt_z (pos 0) b.width
    (λ some.
    let e = rise_left b bs s s (omega (arith, ints)) in
    let e1 = rise_left b bs s (s +ℤ pos 1) (omega (arith, ints)) in
    let a : b.price *ℤ (s -ℤ s) ≡ pos 0 = ap (λ (z : ℤ). b.price *ℤ z) (omega (arith, ints)) ∙ *ℤ-zero b.price in
    let c : b.price *ℤ ((s +ℤ pos 1) -ℤ s) ≡ b.price =
    ap (λ (z : ℤ). b.price *ℤ z) (omega (arith, ints)) ∙ times_one b.price in
    omega (arith, ints))
    (λ empty.
    let t = s +ℤ b.width in
    let same : t ≡ s = omega (arith, ints) in
    let e = rise_right b bs s s (omega (arith, ints)) in
    let e1 = rise_right b bs s (s +ℤ pos 1) (omega (arith, ints)) in
    let rest = first_slope b.price bs t are.2 (omega (arith, ints)) in
    let f : rise_over bs t t ≡ rise_over bs t s = ap (rise_over bs t) same in
    let g : rise_over bs t (t +ℤ pos 1) ≡ rise_over bs t (s +ℤ pos 1) = ap (λ z. rise_over bs t (z +ℤ pos 1)) same in
    omega (arith, ints))

pub rise_convex : (p : ℤ) (bs : List Block) (s : ℤ) → AreBlocks p bs →
    IsConvex s (block_end bs s (length bs)) (rise_over bs s)
rise_convex p [] s are x low high = absurd (omega (arith, ints))
rise_convex p (b ∷ bs) s are x low high =
    let t = s +ℤ b.width in
    by_lt_z x t
    (λ left.
    let e = rise_left b bs s x (omega (arith, ints)) in
    let e0 = rise_left b bs s (x -ℤ pos 1) (omega (arith, ints)) in
    let e1 = rise_left b bs s (x +ℤ pos 1) (omega (arith, ints)) in
    let l = straight_product b.price s x in
    omega (arith, ints))
    (λ from. by_lt_z t x
    (λ right.
    let e = rise_right b bs s x (omega (arith, ints)) in
    let e0 = rise_right b bs s (x -ℤ pos 1) (omega (arith, ints)) in
    let e1 = rise_right b bs s (x +ℤ pos 1) (omega (arith, ints)) in
    let rest = rise_convex b.price bs t are.2 x right high in
    omega (arith, ints))
    (λ upto.
    let same : t ≡ x = omega (arith, ints) in
    let e = rise_left b bs s x (omega (arith, ints)) in
    let e0 = rise_left b bs s (x -ℤ pos 1) (omega (arith, ints)) in
    let e1 = rise_right b bs s (x +ℤ pos 1) (omega (arith, ints)) in
    let w : b.price *ℤ b.width ≡ b.price *ℤ (x -ℤ s) = ap (λ z. b.price *ℤ z) (omega (arith, ints)) in
    let l = ap (λ (z : ℤ). b.price *ℤ z) {x = (x -ℤ pos 1) -ℤ s} (omega (arith, ints)) ∙ times_prev b.price (x -ℤ s) in
    let rest = first_slope b.price bs t are.2 (omega (arith, ints)) in
    let g : rise_over bs t (t +ℤ pos 1) ≡ rise_over bs t (x +ℤ pos 1) = ap (λ z. rise_over bs t (z +ℤ pos 1)) same in
    omega (arith, ints)))

-- ---- one split after another

pub block_end_next : (bs : List Block) (s : ℤ) (j : ℕ) (d : Block) → j < length bs →
    block_end bs s (j + 1) ≡ block_end bs s j +ℤ (get_or bs j d).width
block_end_next [] s j d h = absurd (omega arith)
block_end_next (b ∷ bs) s zero d h = refl
block_end_next (b ∷ bs) s (suc j) d h = ap (block_end (b ∷ bs) s) {x = suc j + 1} {y = suc (j + 1)} (omega arith) ∙
    block_end_next bs (s +ℤ b.width) j d (omega arith)

pub IsRefined-none : (bs : List Block) (s : ℤ) (ks : List Knot) (n : ℕ) → IsRefined bs s 0 ks n ks n
IsRefined-none bs s ks n = record {
  function = λ f s. s;
  apart = λ k h i l. absurd (omega arith);
  ends = record { some = λ h. h; none = λ h. h; first = λ h. refl; last = λ h. refl };
}

pub IsRefined-more : (bs : List Block) (s : ℤ) (j : ℕ) (ks k1 k2 : List Knot) (n n1 n2 : ℕ) (x : ℤ) →
    IsRefined bs s j ks n k1 n1 → IsSplit x k1 n1 k2 n2 → block_end bs s (j + 1) ≡ x
    → IsRefined bs s (j + 1) ks n k2 n2
IsRefined-more bs s j ks k1 k2 n n1 n2 x r split e = record {
  function = λ f st. split.function f (r.function f st);
  apart = λ k h i l. elim (cases_lt i j) [
    | inl earlier ↦
        let p = split.finer k h in
        elim (r.apart p.old p.bound i earlier) [
          | inl high ↦ inl (omega (arith, ints))
          | inr low ↦ inr (omega (arith, ints))
        ]
    | inr here ↦
        let q : suc i ≡ j + 1 = omega arith in
        let same : block_end bs s (suc i) ≡ x = ap (block_end bs s) q ∙ e in
        elim (split.apart k h) [
          | inl high ↦ inl (omega (arith, ints))
          | inr low ↦ inr (omega (arith, ints))
        ]
  ];
  ends = HaveSameEnds-then ks k1 k2 n n1 n2 r.ends split.ends;
}

-- ---- the rise, block by block

pub block_end_far : (p : ℤ) (bs : List Block) (s : ℤ) (j : ℕ) → AreBlocks p bs → s ≤ℤ block_end bs s j
block_end_far p bs s zero are = omega (arith, ints)
block_end_far p [] s (suc j) are = omega (arith, ints)
block_end_far p (b ∷ bs) s (suc j) are = let rest = block_end_far b.price bs (s +ℤ b.width) j are.2 in
    let width = are.1 in omega (arith, ints)

-- nothing rises over no way
pub rise_zero : (p : ℤ) (bs : List Block) (s : ℤ) → AreBlocks p bs → rise_over bs s s ≡ pos 0
rise_zero p [] s are = refl
rise_zero p (b ∷ bs) s are =
    let e = rise_left b bs s s (omega (arith, ints)) in
    let a : b.price *ℤ (s -ℤ s) ≡ pos 0 = ap (λ (z : ℤ). b.price *ℤ z) (omega (arith, ints)) ∙ *ℤ-zero b.price in
    let rest = rise_zero b.price bs (s +ℤ b.width) are.2 in
    omega (arith, ints)

-- in a block the rise is its price times the way
pub rise_in : (p : ℤ) (bs : List Block) (s : ℤ) (j : ℕ) (d : Block) (x : ℤ) → AreBlocks p bs → j < length bs →
    block_end bs s j ≤ℤ x → x ≤ℤ (block_end bs s j +ℤ (get_or bs j d).width)
    → rise_over bs s x ≡ rise_over bs s (block_end bs s j) +ℤ (get_or bs j d).price *ℤ (x -ℤ block_end bs s j)
rise_in p [] s j d x are h low high = absurd (omega arith)
rise_in p (b ∷ bs) s zero d x are h low high =
    let e = rise_left b bs s x high in
    let e0 = rise_left b bs s s (omega (arith, ints)) in
    let a : b.price *ℤ (s -ℤ s) ≡ pos 0 = ap (λ (z : ℤ). b.price *ℤ z) (omega (arith, ints)) ∙ *ℤ-zero b.price in
    omega (arith, ints)
rise_in p (b ∷ bs) s (suc j) d x are h low high =
    let far = block_end_far b.price bs (s +ℤ b.width) j are.2 in
    let e = rise_right b bs s x (omega (arith, ints)) in
    let e0 = rise_right b bs s (block_end bs (s +ℤ b.width) j) far in
    let rest = rise_in b.price bs (s +ℤ b.width) j d x are.2 (omega arith) low high in
    omega (arith, ints)

-- the curve's value at a power of block j
pub record IsOnBlock (v : ℤ) (bs : List Block) (s : ℤ) (j : ℕ) (d : Block) (x : ℤ) : Type 0 where
  pub is : curve_term v bs s (block_end bs s j) +ℤ (get_or bs j d).price *ℤ (x -ℤ block_end bs s j) ≡ curve_term v bs s
      x
  pub amount : IsAmount (curve_term v bs s x)

pub on_block_is : (v : ℤ) (bs : List Block) (s : ℤ) (j : ℕ) (d : Block) (x : ℤ) → AreLimitedBlocks v bs s →
    j < length bs → block_end bs s j ≤ℤ x → x ≤ℤ block_end bs s (j + 1) → IsOnBlock v bs s j d x
on_block_is v bs s j d x l h low high =
    let next = block_end_next bs s j d h in
    let here = rise_in l.lowest bs s j d x l.blocks h low (omega (arith, ints)) in
    let whole = rise_in l.lowest bs s j d (block_end bs s (j + 1)) l.blocks h (omega (arith, ints))
    (omega (arith, ints)) in
    let is : curve_term v bs s x ≡ curve_term v bs s (block_end bs s j) +ℤ (get_or bs j d).price *ℤ
    (x -ℤ block_end bs s j) = omega (arith, ints) in
    let part = amount_part (curve_term v bs s (block_end bs s j)) (curve_term v bs s (block_end bs s (j + 1)))
    (get_or bs j d).price (x -ℤ block_end bs s j) (block_end bs s (j + 1) -ℤ block_end bs s j)
    (omega (arith, ints)) (omega (arith, ints)) (omega (arith, ints)) (l.values j (omega arith))
    (l.values (j + 1) (omega arith)) in
    record { is = sym is; amount = subst IsAmount (sym is) part }

-- the curve begins with its value
pub curve_begins : (v : ℤ) (bs : List Block) (s : ℤ) → AreLimitedBlocks v bs s → curve_term v bs s s ≡ v
curve_begins v bs s l = let z = rise_zero l.lowest bs s l.blocks in omega (arith, ints)

pub curve_straight : (v : ℤ) (bs : List Block) (s lo hi : ℤ) → EndsOutside bs s (length bs) lo hi →
    IsStraight lo hi (curve_term v bs s)
curve_straight v bs s lo hi out x low high = let h = rise_straight bs s lo hi out x low high in omega (arith, ints)

pub curve_convex : (v p : ℤ) (bs : List Block) (s lo hi : ℤ) → AreBlocks p bs → s ≤ℤ lo →
    hi ≤ℤ block_end bs s (length bs) → IsConvex lo hi (curve_term v bs s)
curve_convex v p bs s lo hi are first last x low high =
    let h = rise_convex p bs s are x (omega (arith, ints)) (omega (arith, ints)) in omega (arith, ints)

pub block_end_rise : (p : ℤ) (bs : List Block) (s : ℤ) (j : ℕ) → AreBlocks p bs → j < length bs →
    block_end bs s j ≤ℤ block_end bs s (j + 1)
block_end_rise p [] s j are h = absurd (omega arith)
block_end_rise p (b ∷ bs) s zero are h = let width = are.1 in omega (arith, ints)
block_end_rise p (b ∷ bs) s (suc j) are h =
    let rest = block_end_rise b.price bs (s +ℤ b.width) j are.2 (omega arith) in
    let e = ap (block_end (b ∷ bs) s) {x = suc j + 1} {y = suc (j + 1)} (omega arith) in
    omega (arith, ints)

-- where the next block ends
pub record IsNextEnd (bs : List Block) (s : ℤ) (j : ℕ) (d : Block) : Type 0 where
  pub next : block_end bs s (j + 1) ≡ block_end bs s j +ℤ (get_or bs j d).width
  pub rise : block_end bs s j ≤ℤ block_end bs s (j + 1)
  pub here : IsWide (block_end bs s j)
  pub there : IsWide (block_end bs s (j + 1))

pub next_end : (p : ℤ) (bs : List Block) (s : ℤ) (j : ℕ) (d : Block) → AreBlocks p bs →
    ((i : ℕ) → i ≤ length bs → IsWide (block_end bs s i)) → j < length bs → IsNextEnd bs s j d
next_end p bs s j d are wide h = record {
  next = block_end_next bs s j d h;
  rise = block_end_rise p bs s j are h;
  here =
      wide j (omega arith);
  there = wide (j + 1) (omega arith);
}

-- as the code has it
pub end_coded : (bs : List Block) (s : ℤ) (j : ℕ) (d : Block) (start : ℤ) → start ≡ block_end bs s j →
    IsNextEnd bs s j d
    → to_z w64 (of_z w64 (start +ℤ to_z w64 (of_z w64 (get_or bs j d).width))) ≡ block_end bs s (j + 1)
end_coded bs s j d start is e = omega (arith, ints)
