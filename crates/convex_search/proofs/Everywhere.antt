-- A box that has all prices in it is the same round any prices.
use Rattle.convex_search.proofs.Common.{◌≡◌, ℕ, ◌+◌, ◌-◌, ◌<◌, ℤ, pos, neg_ℤ, ◌+ℤ◌, ◌-ℤ◌, ◌*ℤ◌, ◌≤ℤ◌, sym, ap, ◌∙◌}
use Rattle.convex_search.proofs.Common.{arith, ints, IsFrom, int_at, Market, PriceLists}
use Rattle.convex_search.proofs.Common.{MixtureLists, ArePricesOver, everywhere}
use Rattle.std.proofs.Common.{unsigned_abs, nat_lt, if◌then◌else◌, true, false}
use Rattle.std.proofs.lemmas.Int.{clamps}
use Rattle.std.specs.Int.{int_min, int_max}
use Rattle.plain_lists.proofs.ListLaws.{at_place}
use Rattle.plain_lists.proofs.IntLaws.{sum_below-same}
use Rattle.plain_lists.specs.Sums.{floor_div}
use Rattle.uc_model.specs.Limits.{price_limit}
use Rattle.gap_proof.specs.CertifiedBound.{price_at, lowest_price, low_end, high_end}
use Rattle.gap_proof.specs.MixtureBound.{greatest, added, lack, short, most_energy, most_reserve, mixture_cost}
unfoldable use Rattle.gap_proof.specs.MixtureBound.{mixture_bound}

-- each price is within the limits
within : (m : Market) (π : PriceLists) (j : ℕ) → ArePricesOver m π →
    IsFrom (neg_ℤ price_limit) price_limit (price_at m π j)
within m π j h = elim (nat_lt j m.periods) as (λ b. IsFrom (neg_ℤ price_limit) price_limit
    (if b then int_at π.energy j else int_at π.reserve (j - m.periods))) [
      | true ↦ at_place (IsFrom (neg_ℤ price_limit) price_limit) (pos 0)
          (record { at_least = omega (arith, ints); at_most = omega (arith, ints) }) π.energy h.within.energy j
      | false ↦ let r = at_place (IsFrom (pos 0) price_limit) (pos 0)
          (record { at_least = omega (arith, ints); at_most = omega (arith, ints) }) π.reserve h.within.reserve
          (j - m.periods) in
          let low = r.at_least in
          record { at_least = omega (arith, ints, low); at_most = r.at_most }
    ]

lowest_low : (m : Market) (j : ℕ) → neg_ℤ price_limit ≤ℤ lowest_price m j
lowest_low m j = elim (nat_lt j m.periods) as (λ b. neg_ℤ price_limit ≤ℤ (if b then neg_ℤ price_limit else pos 0)) [
  | true ↦ omega (arith, ints)
  | false ↦ omega (arith, ints)
]

greater : (a b : ℤ) → b ≤ℤ a → int_max a b ≡ a
greater a b h = omega (arith, ints, clamps)

lesser : (a b : ℤ) → a ≤ℤ b → int_min a b ≡ a
lesser a b h = omega (arith, ints, clamps)

low_is : (m : Market) (π : PriceLists) (j : ℕ) → ArePricesOver m π → low_end m π everywhere j ≡ lowest_price m j
low_is m π j h =
    let most = (within m π j h).at_most in
    let low = lowest_low m j in
    greater (lowest_price m j) (price_at m π j -ℤ everywhere) (omega (arith, ints, most, low))

high_is : (m : Market) (π : PriceLists) (j : ℕ) → ArePricesOver m π → high_end m π everywhere j ≡ price_limit
high_is m π j h =
    let least = (within m π j h).at_least in
    lesser price_limit (price_at m π j +ℤ everywhere) (omega (arith, ints, least))

abbrev added_between : Market → MixtureLists → ℕ → ℤ → ℤ → ℤ → ℤ → ℤ
added_between m x k low high low_reserve high_reserve =
    greatest (unsigned_abs (high -ℤ low)) (λ i. added m x.whole (lack m x k) k (low +ℤ pos i)) +ℤ
    int_max (short m x k *ℤ low_reserve) (short m x k *ℤ high_reserve)

pub everywhere_same : (m : Market) (x : MixtureLists) (π other : PriceLists) → ArePricesOver m π →
    ArePricesOver m other →
    mixture_bound m x π everywhere ≡ mixture_bound m x other everywhere
unfolding mixture_bound
everywhere_same m x π other h i =
    let f : PriceLists → ℕ → ℤ = λ p k. most_energy m x p everywhere k +ℤ most_reserve m x p everywhere k in
    let low : (j : ℕ) → low_end m π everywhere j ≡ low_end m other everywhere j =
    λ j. low_is m π j h ∙ sym (low_is m other j i) in
    let high : (j : ℕ) → high_end m π everywhere j ≡ high_end m other everywhere j =
    λ j. high_is m π j h ∙ sym (high_is m other j i) in
    let same : (k : ℕ) → k < m.periods → f π k ≡ f other k = λ k lt. λ j.
    added_between m x k (low k j) (high k j) (low (m.periods + k) j) (high (m.periods + k) j) in
    ap (λ (s : ℤ). floor_div (mixture_cost m x +ℤ s) (unsigned_abs x.whole)) (sum_below-same m.periods (f π) (f
    other) same)
