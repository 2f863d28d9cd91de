-- The least of some numbers, the first of them in a tie, found from the last one back.
use Rattle.gap_proof.proofs.Common.{◌≡◌, ℕ, ◌+◌, ◌-◌, ◌<◌, ◌≤◌, ℤ, ◌≤ℤ◌, ◌<ℤ◌, inl, inr, sym, ap, ◌∙◌, arith, cases_lt}
use Rattle.gap_proof.proofs.Common.{ints, by_lt_z}

-- among the numbers behind place i, up to n, the one at first
pub record IsLeastBehind (f : ℕ → ℤ) (i n first : ℕ) (bound : ℤ) : Type 0 where
  pub from : i < first
  pub to : first ≤ n
  pub is : bound ≡ f first
  pub least : (j : ℕ) → i < j → j ≤ n → bound ≤ℤ f j
  pub earlier : (j : ℕ) → i < j → j < first → bound <ℤ f j

at_same : (f : ℕ → ℤ) (i j : ℕ) → i ≡ j → f i ≡ f j
at_same f i j e = ap f e

pub least_one : (f : ℕ → ℤ) (i n : ℕ) (bound : ℤ) → n ≡ i + 1 → bound ≡ f n → IsLeastBehind f i n n bound
least_one f i n bound e is = record {
  from = omega (arith, e);
  to = omega arith;
  is = is;
  least = λ j low high. let same = at_same f n j (omega (arith, e, low, high)) in omega (arith, ints, is, same);
  earlier = λ j low high. absurd (omega (arith, e, low, high));
}

-- one number more, at i, which is taken in a tie
pub least_more : (f : ℕ → ℤ) (i n first first' : ℕ) (bound b bound' : ℤ) → 0 < i → IsLeastBehind f i n first bound →
    b ≡ f ((i - 1) + 1) →
    (b ≤ℤ bound → (first' ≡ (i - 1) + 1) × (bound' ≡ b)) → (bound <ℤ b → (first' ≡ first) × (bound' ≡ bound)) →
    IsLeastBehind f (i - 1) n first' bound'
least_more f i n first first' bound b bound' low h value taken kept =
    let back : (i - 1) + 1 ≡ i = omega (arith, low) in
    let here : b ≡ f i = value ∙ ap f back in
    let from = h.from in
    let to = h.to in
    by_lt_z bound b
    (λ lt.
    let k = kept lt in
    let e = k.0 in
    let g = k.1 in
    record {
      from = omega (arith, from, e, low);
      to = omega (arith, to, e);
      is = let s = h.is in g ∙ s ∙ ap f (sym e);
      least = λ j after up. elim (cases_lt i j) [
        | inl more ↦ let l = h.least j more up in omega (arith, ints, l, g)
        | inr none ↦ let same = at_same f i j (omega (arith, none, after, low)) in
            omega (arith, ints, lt, here, same, g)
      ];
      earlier = λ j after below. elim (cases_lt i j) [
        | inl more ↦ let l = h.earlier j more (omega (arith, below, e)) in omega (arith, ints, l, g)
        | inr none ↦ let same = at_same f i j (omega (arith, none, after, low)) in
            omega (arith, ints, lt, here, same, g)
      ];
    })
    (λ le.
    let k = taken le in
    let e = k.0 in
    let g = k.1 in
    record {
      from = omega (arith, e);
      to = omega (arith, from, to, e, back);
      is = g ∙ value ∙ ap f (sym e);
      least = λ j after up. elim (cases_lt i j) [
        | inl more ↦ let l = h.least j more up in omega (arith, ints, l, g, le)
        | inr none ↦ let same = at_same f i j (omega (arith, none, after, low)) in omega (arith, ints, here, same, g)
      ];
      earlier = λ j after below. absurd (omega (arith, after, below, e));
    })

-- which of two is taken, it is no less than what both are no less than
pub least_from : (low bound b bound' : ℤ) (first first' start : ℕ) → low ≤ℤ bound → low ≤ℤ b →
    (b ≤ℤ bound → (first' ≡ start) × (bound' ≡ b)) → (bound <ℤ b → (first' ≡ first) × (bound' ≡ bound)) → low ≤ℤ bound'
least_from low bound b bound' first first' start above above' taken kept =
    by_lt_z bound b (λ lt. let is = (kept lt).1 in omega (arith, ints, is, above))
    (λ le. let is = (taken le).1 in omega (arith, ints, is, above'))
