-- What the tests check suffices for the conditions of the calls.
use Rattle.test_whole.proofs.Common.{◌≡◌, ℕ, zero, suc, ◌+◌, ◌*◌, ◌<◌, List, [], ◌∷◌, length, get_or, Option, Some}
use Rattle.test_whole.proofs.Common.{None, refl, sym, ap, ◌∙◌, arith, inl, inr, ℤ, pos, neg_ℤ, ◌+ℤ◌, ◌-ℤ◌, ◌*ℤ◌, ◌≤ℤ◌}
use Rattle.test_whole.proofs.Common.{◌<ℤ◌, int_lt, true, false, int_min, ints, clamps, by_lt_z, cases_lt, Block}
use Rattle.test_whole.proofs.Common.{rise_at, curve_value, end_of, reserve_term, IsLimitedCurve, IsSmall, IsModestAt}
use Rattle.test_whole.proofs.Common.{IsNear, AreFair}
use Rattle.std.specs.Option.{option_map}
use Rattle.std.proofs.Math.IntN.{*ℤ_comm, *ℤ-zero}
use Rattle.uc_model.specs.declared.units.Curve.{Curve}
use Rattle.plain_lists.specs.Ranges.{IsFrom}
use Rattle.uc_model.specs.Limits.{IsCurve}
use Rattle.plain_lists.proofs.IntLaws.{mul-sub}
use Rattle.plain_lists.proofs.SignedLaws.{IsWithin, product_within}
use Rattle.slope_list.specs.Effect.{CanAddCurve}
use Rattle.slope_list.specs.ShapeLaws.{CurveHasValueAtEachPower}
use Rattle.slope_list.proofs.Lookup.{power_split}
use Rattle.slope_list.specs.Table.{Table, value_of, IsWithinLimits, HasNone, CanAdd}

near : (f : Table) → IsWithinLimits f → HasNone (neg_ℤ (pos 4000000000)) (neg_ℤ (pos 1001)) f →
    HasNone (pos 1001) (pos 4000000000) f → (x v : ℤ) → value_of f x ≡ Some v → IsNear x
near f within before after x v h =
    let p = (within x v h).0 in
    let p0 = p.0 in
    let p1 = p.1 in
    record {
      at_least = by_lt_z x (neg_ℤ (pos 1000)) (λ l. let none = before x (omega (arith, ints)) (omega (arith, ints)) in
          absurd (let q = sym none ∙ h in (cc))) (λ l. l);
      at_most = by_lt_z (pos 1000) x (λ l. let none = after x (omega (arith, ints)) (omega (arith, ints)) in
          absurd (let q = sym none ∙ h in (cc))) (λ l. l);
    }

-- what is checked at each place, and beyond them
pub IsSmall-from : (f : Table) → IsWithinLimits f → HasNone (neg_ℤ (pos 4000000000)) (neg_ℤ (pos 1001)) f →
    HasNone (pos 1001) (pos 4000000000) f
    → ((j : ℕ) → j < 2001 → IsModestAt f (pos j -ℤ pos 1000)) → IsSmall f
IsSmall-from f within before after modest = record {
  places = near f within before after;
  values = λ x v h.
      let n = near f within before after x v h in
      let low = n.at_least in
      let high = n.at_most in
      elim (power_split (neg_ℤ (pos 1000)) x) [
        | inl k ↦
            let is = k.1 in
            let here : x ≡ pos k.0 -ℤ pos 1000 = omega (arith, ints) in
            (modest k.0 (omega (arith, ints))).most v (ap (value_of f) (sym here) ∙ h)
        | inr below ↦ absurd (omega (arith, ints))
      ];
}

-- an element that is there doesn't depend on the default
same_at : (bs : List Block) (i : ℕ) (d e : Block) → i < length bs → get_or bs i d ≡ get_or bs i e
same_at [] i d e h = absurd (omega arith)
same_at (b ∷ bs) zero d e h = refl
same_at (b ∷ bs) (suc i) d e h = same_at bs i d e (omega arith)

-- one more fair block
module _ (bs : List Block) (j : ℕ) (last : ℤ) (d0 : Block) (inside : j < length bs) (fair : AreFair bs j)
    (before : (i : ℕ) (d : Block) → suc i ≡ j → last ≡ (get_or bs i d).price)
    (w0 : pos 0 ≤ℤ (get_or bs j d0).width) (w1 : (get_or bs j d0).width ≤ℤ pos 1000)
    (rise : last ≤ℤ (get_or bs j d0).price)
    (p0 : neg_ℤ (pos 1000000) ≤ℤ (get_or bs j d0).price) (p1 : (get_or bs j d0).price ≤ℤ pos 1000000) where
  pub last-more : (i : ℕ) (d : Block) → suc i ≡ j + 1 → (get_or bs j d0).price ≡ (get_or bs i d).price
  last-more i d e =
      let same : i ≡ j = omega arith in
      ap (λ (b : Block). b.price) (same_at bs j d0 d inside ∙ ap (λ (k : ℕ). get_or bs k d) (sym same))

  width-more : (i : ℕ) (d : Block) → suc i ≡ j + 1 → (get_or bs j d0).width ≡ (get_or bs i d).width
  width-more i d e =
      let same : i ≡ j = omega arith in
      ap (λ (b : Block). b.width) (same_at bs j d0 d inside ∙ ap (λ (k : ℕ). get_or bs k d) (sym same))

  pub AreFair-more : AreFair bs (j + 1)
  AreFair-more = record {
    widths = λ i d h. elim (cases_lt i j) [
      | inl early ↦ fair.widths i d early
      | inr now ↦ let e = width-more i d (omega arith) in
          record { at_least = omega (arith, ints); at_most = omega (arith, ints) }
    ];
    prices = λ i d h. elim (cases_lt i j) [
      | inl early ↦ fair.prices i d early
      | inr now ↦ let e = last-more i d (omega arith) in
          record { at_least = omega (arith, ints); at_most = omega (arith, ints) }
    ];
    rising = λ i d h. elim (cases_lt (suc i) j) [
      | inl early ↦ fair.rising i d early
      | inr now ↦ let e = before i d (omega arith) in let f = last-more (suc i) d (omega arith) in omega (arith, ints)
    ];
  }

-- a product of two numbers within 1,000
near_product : (a x : ℤ) → IsNear a → IsNear x → IsWithin 1000000 (a *ℤ x)
near_product a x na nx =
    let l = nx.at_least in
    let h = nx.at_most in
    by_lt_z x (pos 0)
    (λ below.
    let y = pos 0 -ℤ x in
    let w = product_within 1000 1000 a y na
    (record { at_least = omega (arith, ints); at_most = omega (arith, ints) }) in
    let w0 = w.at_least in
    let w1 = w.at_most in
    let e : a *ℤ x ≡ a *ℤ (pos 0 -ℤ y) = ap (λ (z : ℤ). a *ℤ z) (omega (arith, ints)) in
    let f = mul-sub a (pos 0) y in
    let z = *ℤ-zero a in
    record { at_least = omega (arith, ints); at_most = omega (arith, ints) })
    (λ above. product_within 1000 1000 a x na (record { at_least = above; at_most = h }))

pub CanAdd-line : (f : Table) (slope : ℤ) → IsSmall f → IsNear slope → CanAdd (λ x. slope *ℤ x) f
CanAdd-line f slope small near x v h =
    let p = near_product slope x near (small.places x v h) in
    let p0 = p.at_least in
    let p1 = p.at_most in
    let w = small.values x v h in
    let w0 = w.at_least in
    let w1 = w.at_most in
    (omega (arith, ints), omega (arith, ints))

pub CanAdd-reserve : (f : Table) (mu cap up : ℤ) → IsSmall f → IsFrom (pos 0) (pos 1000) mu → IsNear cap → IsNear up →
    CanAdd (reserve_term mu cap up) f
CanAdd-reserve f mu cap up small m c u x v h =
    let n = small.places x v h in
    let n0 = n.at_least in
    let n1 = n.at_most in
    let c0 = c.at_least in
    let c1 = c.at_most in
    let u0 = u.at_least in
    let u1 = u.at_most in
    let most = int_min cap (up +ℤ x) in
    let p = product_within 2000 1000 most mu
    (record { at_least = omega (arith, ints, clamps); at_most = omega (arith, ints, clamps) }) m in
    let p0 = p.at_least in
    let p1 = p.at_most in
    let turn = *ℤ_comm most mu in
    let w = small.values x v h in
    let w0 = w.at_least in
    let w1 = w.at_most in
    (omega (arith, ints), omega (arith, ints))

-- ---- curves

later : (b : Block) (bs : List Block) → AreFair (b ∷ bs) (suc (length bs)) → AreFair bs (length bs)
later b bs f = record {
  widths = λ i d h. f.widths (suc i) d (omega arith);
  prices = λ i d h. f.prices (suc i) d (omega arith);
  rising = λ i d h. f.rising (suc i) d (omega arith);
}

IsCurve-fair : (bs : List Block) → AreFair bs (length bs) → IsCurve bs
IsCurve-fair bs f = record { widths = λ i d h. (f.widths i d h).at_least; rising = f.rising }

lt_is : (a b : ℤ) → a <ℤ b → int_lt a b ≡ true
lt_is a b h = grind (arith, ints)

not_lt_is : (a b : ℤ) → b ≤ℤ a → int_lt a b ≡ false
not_lt_is a b h = grind (arith, ints)

rise_past : (b : Block) (bs : List Block) (x : ℤ) → b.width <ℤ x →
    rise_at (b ∷ bs) x ≡ option_map (λ v. v +ℤ (b.price *ℤ b.width)) (rise_at bs (x -ℤ b.width))
rise_past b bs x h = rw (lt_is b.width x h)

rise_within : (b : Block) (bs : List Block) (x : ℤ) → x ≤ℤ b.width → rise_at (b ∷ bs) x ≡ Some (b.price *ℤ x)
rise_within b bs x h = rw (not_lt_is b.width x h)

mapped_sum : (k v : ℤ) (o : Option ℤ) → option_map (λ u. u +ℤ k) o ≡ Some v → (u : ℤ) × (o ≡ Some u) × (v ≡ u +ℤ k)
mapped_sum k v None h = cc
mapped_sum k v (Some u) h = (u, refl, (cc))

some_same : (a b : ℤ) → Some a ≡ Some b → a ≡ b
some_same a b h = cc

rise_bound : (bs : List Block) (x v : ℤ) → AreFair bs (length bs) → pos 0 ≤ℤ x → rise_at bs x ≡ Some v →
    IsWithin (length bs * 1000000000) v
rise_bound [] x v f low h =
    by_lt_z (pos 0) x
    (λ past. let n : rise_at [] x ≡ None = rw (lt_is (pos 0) x past) in absurd (let q = sym n ∙ h in (cc)))
    (λ upto.
    let e : rise_at [] x ≡ Some (pos 0) = rw (not_lt_is (pos 0) x upto) in
    let s = some_same (pos 0) v (sym e ∙ h) in
    record { at_least = omega (arith, ints); at_most = omega (arith, ints) })
rise_bound (b ∷ bs) x v f low h =
    let w = f.widths 0 b (omega arith) in
    let w0 = w.at_least in
    let w1 = w.at_most in
    let p = f.prices 0 b (omega arith) in
    by_lt_z b.width x
    (λ past.
    let u = mapped_sum (b.price *ℤ b.width) v (rise_at bs (x -ℤ b.width)) (sym (rise_past b bs x past) ∙ h) in
    let rest = rise_bound bs (x -ℤ b.width) u.0 (later b bs f) (omega (arith, ints)) u.1 in
    let r0 = rest.at_least in
    let r1 = rest.at_most in
    let q = product_within 1000000 1000 b.price b.width p w in
    let q0 = q.at_least in
    let q1 = q.at_most in
    let sum = u.2 in
    record { at_least = omega (arith, ints); at_most = omega (arith, ints) })
    (λ within.
    let s = some_same (b.price *ℤ x) v (sym (rise_within b bs x within) ∙ h) in
    let q = product_within 1000000 1000 b.price x p (record { at_least = low; at_most = omega (arith, ints) }) in
    let q0 = q.at_least in
    let q1 = q.at_most in
    record { at_least = omega (arith, ints); at_most = omega (arith, ints) })

pub end_bounds : (bs : List Block) (from : ℤ) → AreFair bs (length bs) →
    (from ≤ℤ end_of from bs) × (end_of from bs ≤ℤ (from +ℤ pos (length bs * 1000)))
end_bounds [] from f = (omega (arith, ints), omega (arith, ints))
end_bounds (b ∷ bs) from f =
    let w = f.widths 0 b (omega arith) in
    let w0 = w.at_least in
    let w1 = w.at_most in
    let r = end_bounds bs (from +ℤ b.width) (later b bs f) in
    let r0 = r.0 in
    let r1 = r.1 in
    (omega (arith, ints), omega (arith, ints))

module _ (c : Curve) (few : length c.blocks.items < 100) (fair : AreFair c.blocks.items (length c.blocks.items))
    (at : IsNear c.at) (value : IsNear c.value) where
  value_bound : (x v : ℤ) → curve_value c x ≡ Some v → IsWithin 1000000000000 v
  value_bound x v h =
      let v0 = value.at_least in
      let v1 = value.at_most in
      by_lt_z x c.at
      (λ before. let n : curve_value c x ≡ None = rw (lt_is x c.at before) in absurd (let q = sym n ∙ h in (cc)))
      (λ from.
      let e : curve_value c x ≡ option_map (λ u. u +ℤ c.value) (rise_at c.blocks.items (x -ℤ c.at)) =
      rw (not_lt_is x c.at from) in
      let u = mapped_sum c.value v (rise_at c.blocks.items (x -ℤ c.at)) (sym e ∙ h) in
      let r = rise_bound c.blocks.items (x -ℤ c.at) u.0 fair (omega (arith, ints)) u.1 in
      let r0 = r.at_least in
      let r1 = r.at_most in
      let sum = u.2 in
      record { at_least = omega (arith, ints); at_most = omega (arith, ints) })

  pub IsLimitedCurve-fair : IsLimitedCurve c
  IsLimitedCurve-fair =
      let a0 = at.at_least in
      let a1 = at.at_most in
      let e = end_bounds c.blocks.items c.at fair in
      let e0 = e.0 in
      let e1 = e.1 in
      record {
        blocks = IsCurve-fair c.blocks.items fair;
        first_place = (omega (arith, ints), omega (arith, ints));
        last_place = (omega (arith, ints), omega (arith, ints));
        values = λ x v h. let b = value_bound x v h in let b0 = b.at_least in let b1 = b.at_most in
            (omega (arith, ints), omega (arith, ints));
      }

  pub CanAddCurve-fair : CurveHasValueAtEachPower → (f : Table) (shift : ℤ) → IsSmall f → IsNear shift →
      HasNone (neg_ℤ (pos 4000000000)) ((c.at -ℤ shift) -ℤ pos 1) f
      → HasNone ((end_of c.at c.blocks.items -ℤ shift) +ℤ pos 1) (pos 4000000000) f →
      CanAddCurve (curve_value c) shift f
  CanAddCurve-fair law f shift small near before after x v h =
      let bs = c.blocks.items in
      let n = small.places x v h in
      let n0 = n.at_least in
      let n1 = n.at_most in
      let from : (c.at -ℤ shift) ≤ℤ x =
      by_lt_z x (c.at -ℤ shift) (λ l. let none = before x (omega (arith, ints)) (omega (arith, ints)) in
      absurd (let q = sym none ∙ h in (cc))) (λ l. l) in
      let upto : x ≤ℤ (end_of c.at bs -ℤ shift) =
      by_lt_z (end_of c.at bs -ℤ shift) x
      (λ l. let none = after x (omega (arith, ints)) (omega (arith, ints)) in
      absurd (let q = sym none ∙ h in (cc))) (λ l. l) in
      let k = law c IsLimitedCurve-fair (x +ℤ shift) (omega (arith, ints)) (omega (arith, ints)) in
      let b = value_bound (x +ℤ shift) k.0 k.1 in
      let b0 = b.at_least in
      let b1 = b.at_most in
      let w = small.values x v h in
      let w0 = w.at_least in
      let w1 = w.at_most in
      (k.0, k.1, (omega (arith, ints), omega (arith, ints)))
