-- Weighted sums of planes, as they run while a row is added before those that are summed.
use Rattle.gap_proof.proofs.Common.{◌≡◌, ℕ, zero, suc, ◌+◌, ◌-◌, ◌*◌, ◌<◌, ◌≤◌, Bool, if◌then◌else◌, ℤ, pos, ◌+ℤ◌, ◌-ℤ◌}
use Rattle.gap_proof.proofs.Common.{true, false, nat_lt, nat_tests, ◌*ℤ◌, List, [], ◌∷◌, length, unsigned_abs, refl}
use Rattle.gap_proof.proofs.Common.{sym, ap, subst, ◌∙◌, inl, inr, arith, cases_lt, ints, get_or_default, All-head}
use Rattle.gap_proof.proofs.Common.{All-tail, int_max, All, PriceLists, Market, IsFrom, IsPower, IsTotal, IsMarket}
use Rattle.gap_proof.proofs.Common.{Proposal, int_at, floor_div, sum_below-same, IsWithin, IsRowOver, slope_at}
use Rattle.gap_proof.proofs.Common.{height_of, weighted, low_end, high_end, most_over, certified_bound, IsWeight}
use Rattle.gap_proof.proofs.Common.{IsSlopeSum, IsHeightSum, AreSums}
use Rattle.gap_proof.proofs.Bounds.{within_both}
use Rattle.plain_lists.proofs.SignedLaws.{signed_product_within}

-- on which side of the number of periods a price place is
pub lt_true : (a b : ℕ) → a < b → nat_lt a b ≡ true
lt_true a b h = grind (arith, nat_tests)

pub lt_false : (a b : ℕ) → b ≤ a → nat_lt a b ≡ false
lt_false a b h = grind (arith, nat_tests)

-- what holds of each item, and of the number past the end, holds at each place
at_place : (P : ℤ → Type 0) → P (pos 0) → (xs : List ℤ) → All P xs → (k : ℕ) → P (int_at xs k)
at_place P past [] h k = past
at_place P past (x ∷ xs) h zero = All-head P x xs h
at_place P past (x ∷ xs) h (suc k) = at_place P past xs (All-tail P x xs h) k

lacking_within : (demand totals : List ℤ) (k : ℕ) → All IsPower demand → All IsTotal totals →
    IsWithin 20000000000000 (int_at demand k -ℤ int_at totals k)
lacking_within demand totals k h i =
    let p = at_place IsPower (record { at_least = omega (arith, ints); at_most = omega (arith, ints) }) demand h k in
    let q = at_place IsTotal (record { at_least = omega (arith, ints); at_most = omega (arith, ints) }) totals i k in
    let a = p.at_least in let b = p.at_most in let d = q.at_least in let e = q.at_most in
    record { at_least = omega (arith, ints, a, e); at_most = omega (arith, ints, b, d) }

-- what a row's totals lack is far from the limits of its type
slope_within : (m : Market) (r : Proposal) (j : ℕ) → IsMarket m → IsRowOver m r →
    IsWithin 20000000000000 (slope_at m r j)
slope_within m r j market row =
    elim (cases_lt j m.periods) [
      | inl low ↦
          subst (λ (b : Bool). IsWithin 20000000000000
          (if b then int_at m.demand j -ℤ int_at r.supply j else int_at m.reserves (j - m.periods) -ℤ int_at
          r.reserve (j - m.periods))) (sym (lt_true j m.periods low))
          (lacking_within m.demand r.supply j market.demand row.supply)
      | inr high ↦
          subst (λ (b : Bool). IsWithin 20000000000000
          (if b then int_at m.demand j -ℤ int_at r.supply j else int_at m.reserves (j - m.periods) -ℤ int_at
          r.reserve (j - m.periods))) (sym (lt_false j m.periods high))
          (lacking_within m.reserves r.reserve (j - m.periods) market.reserves row.reserve)
    ]

pub sums_none : (m : Market) (slopes : List ℤ) → length slopes ≡ 2 * m.periods →
    ((j : ℕ) → j < 2 * m.periods → int_at slopes j ≡ pos 0) → AreSums m [] [] (pos 0) (pos 0) slopes
sums_none m slopes len zeros = record {
  heights = refl;
  weights = refl;
  slopes_are = zeros;
  same_length = len;
  height_bound = record { at_least = omega (arith, ints); at_most = omega (arith, ints) };
  weight_bound = record { at_least = omega (arith, ints); at_most = omega (arith, ints) };
  slope_bound = λ j lt. let z = zeros j lt in
      record { at_least = omega (arith, ints, z); at_most = omega (arith, ints, z) };
}

sum_of_bounds : (c n : ℕ) (x y z : ℤ) → IsWithin (n * c) x → IsWithin c y → z ≡ x +ℤ y → IsWithin (suc n * c) z
sum_of_bounds c n x y z h i e =
    let a = h.at_least in let b = h.at_most in let d = i.at_least in let f = i.at_most in
    let more : suc n * c ≡ n * c + c = omega arith in
    record { at_least = omega (arith, ints, a, d, more, e); at_most = omega (arith, ints, b, f, more, e) }

module _ (m : Market) (ws : List ℤ) (rows : List Proposal) (height weight : ℤ) (slopes : List ℤ)
    (h : AreSums m ws rows height weight slopes) where
  -- with one row more
  pub sums_more : (x : ℤ) (r : Proposal) (height' weight' : ℤ) (slopes' : List ℤ) → IsMarket m → IsRowOver m r →
      IsWeight x →
      height' ≡ height +ℤ (x *ℤ height_of m r) → IsWithin 2000000000000000000000000000000 (x *ℤ height_of m r) →
      weight' ≡ weight +ℤ x → length slopes' ≡ length slopes →
      ((j : ℕ) → j < 2 * m.periods → int_at slopes' j ≡ int_at slopes j +ℤ (x *ℤ slope_at m r j)) →
      AreSums m (x ∷ ws) (r ∷ rows) height' weight' slopes'
  sums_more x r height' weight' slopes' market row size height_is step weight_is len slopes_is = record {
    heights = let e = h.heights in omega (arith, ints, e, height_is);
    weights = let e = h.weights in omega (arith, ints, e, weight_is);
    slopes_are = λ j lt. let e = h.slopes_are j lt in let f = slopes_is j lt in omega (arith, ints, e, f);
    same_length = len ∙ h.same_length;
    height_bound = sum_of_bounds 2000000000000000000000000000000 (length rows) height (x *ℤ height_of m r) height'
        h.height_bound step height_is;
    weight_bound =
        let a = h.weight_bound.at_least in let b = h.weight_bound.at_most in let d = size.at_least in
        let e = size.at_most in
        let more : suc (length rows) * 1000000 ≡ length rows * 1000000 + 1000000 = omega arith in
        record {
          at_least = omega (arith, ints, a, d, weight_is);
          at_most =
              omega (arith, ints, b, e, more, weight_is);
        };
    slope_bound = λ j lt.
        sum_of_bounds 20000000000000000000 (length rows) (int_at slopes j) (x *ℤ slope_at m r j) (int_at slopes' j)
        (h.slope_bound j lt)
        (signed_product_within 1000000 20000000000000 x (slope_at m r j) (within_both 1000000 x size)
        (slope_within m r j market row)) (slopes_is j lt);
  }

  pub height_size : length rows ≤ 10000 → IsHeightSum height
  height_size few =
      let a = h.height_bound.at_least in let b = h.height_bound.at_most in
      record { at_least = omega (arith, ints, a, few); at_most = omega (arith, ints, b, few) }

  pub weight_size : length rows ≤ 10000 → IsFrom (pos 0) (pos 10000000000) weight
  weight_size few =
      let a = h.weight_bound.at_least in let b = h.weight_bound.at_most in
      record { at_least = a; at_most = omega (arith, ints, b, few) }

  pub slope_sizes : length rows ≤ 10000 → All IsSlopeSum slopes
  slope_sizes few k d lt =
      let len = h.same_length in
      let bound = h.slope_bound k (omega (arith, lt, len)) in
      let a = bound.at_least in let b = bound.at_most in
      subst IsSlopeSum (sym (get_or_default slopes k d (pos 0) lt))
      (record { at_least = omega (arith, ints, a, few); at_most = omega (arith, ints, b, few) })

  -- what is computed from the sums is the bound
  pub bound_is : (centre : PriceLists) (radius : ℤ) →
      floor_div (height +ℤ most_over m centre radius (int_at slopes)) (unsigned_abs weight) ≡ certified_bound m rows ws
      centre radius
  unfolding certified_bound
  bound_is centre radius =
      let most : most_over m centre radius (int_at slopes) ≡ most_over m centre radius
      (λ j. weighted (λ (r : Proposal). slope_at m r j) ws rows) =
      sum_below-same (2 * m.periods) _ _
      (λ j lt. ap (λ (z : ℤ). int_max (z *ℤ low_end m centre radius j) (z *ℤ high_end m centre radius j))
      (h.slopes_are j lt)) in
      ap (λ (z : ℤ). floor_div (z +ℤ most_over m centre radius (int_at slopes)) (unsigned_abs weight)) h.heights
      ∙ ap (λ (z : ℤ). floor_div (weighted (height_of m) ws rows +ℤ z) (unsigned_abs weight)) most
      ∙ ap (λ (z : ℤ). floor_div (weighted (height_of m) ws rows +ℤ most_over m centre radius
      (λ j. weighted (λ (r : Proposal). slope_at m r j) ws rows)) (unsigned_abs z)) h.weights
