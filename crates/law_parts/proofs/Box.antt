-- The centre stands in its box.
use Rattle.law_parts.proofs.Common.{◌≡◌, ℕ, ◌-◌, ◌*◌, ◌<◌, Bool, inl, inr, if◌then◌else◌, ℤ, pos, neg_ℤ, ◌≤ℤ◌, List}
use Rattle.law_parts.proofs.Common.{length, sym, subst, ◌∙◌, arith, ints, clamps, cases_lt, All, PriceLists, Market}
use Rattle.law_parts.proofs.Common.{IsFrom, ArePrices, price_limit, Proposal, int_at, price_at, lowest_price}
use Rattle.law_parts.proofs.Common.{certified_bound, IsAnswered, ArePriced, AreWeights, IsInBox}
use Rattle.law_parts.proofs.Mean.{bound_above}
use Rattle.gap_proof.proofs.SumLaws.{lt_true, lt_false}

pub priced_of : (m : Market) (π : PriceLists) → length π.energy ≡ m.periods → ArePrices π → ArePriced m π
priced_of m π horizon prices = record {
  horizon = horizon;
  reserve_horizon = sym prices.lengths ∙ horizon;
  energy = prices.energy;
  reserve = prices.reserve;
}

-- each price is within its limits
price_limits : (m : Market) (π : PriceLists) (j : ℕ) → ArePriced m π → j < 2 * m.periods →
    IsFrom (lowest_price m j) price_limit (price_at m π j)
price_limits m π j prices lt =
    elim (cases_lt j m.periods) [
      | inl low ↦
          subst (λ (b : Bool). IsFrom (if b then neg_ℤ price_limit else pos 0) price_limit
          (if b then int_at π.energy j else int_at π.reserve (j - m.periods))) (sym (lt_true j m.periods low))
          (prices.energy j (pos 0) (let horizon = prices.horizon in omega (arith, low, horizon)))
      | inr high ↦
          subst (λ (b : Bool). IsFrom (if b then neg_ℤ price_limit else pos 0) price_limit
          (if b then int_at π.energy j else int_at π.reserve (j - m.periods))) (sym (lt_false j m.periods high))
          (prices.reserve (j - m.periods) (pos 0) (let horizon = prices.reserve_horizon in
          omega (arith, lt, high, horizon)))
    ]

pub priced_in_box : (m : Market) (π : PriceLists) (radius : ℤ) → ArePriced m π → pos 0 ≤ℤ radius → IsInBox m π radius π
priced_in_box m π radius prices wide = record {
  horizon = prices.horizon;
  inside = λ j lt.
      let within = price_limits m π j prices lt in
      let a = within.at_least in
      let b = within.at_most in
      record { at_least = omega (arith, ints, clamps, a, wide); at_most = omega (arith, ints, clamps, b, wide) };
}

pub centre_in_box : (m : Market) (π : PriceLists) (radius : ℤ) → length π.energy ≡ m.periods → ArePrices π →
    pos 0 ≤ℤ radius → IsInBox m π radius π
centre_in_box m π radius horizon prices wide = priced_in_box m π radius (priced_of m π horizon prices) wide

-- so the bound is at least the centre's value
pub bound_at_centre : (m : Market) (rows : List Proposal) (weights : List ℤ) (centre : Proposal) (radius : ℤ) →
    All (IsAnswered m) rows → AreWeights rows weights → IsAnswered m centre → ArePrices centre.prices →
    pos 0 ≤ℤ radius →
    centre.value ≤ℤ certified_bound m rows weights centre.prices radius
bound_at_centre m rows weights centre radius answered are answer prices wide =
    bound_above m rows weights centre.prices radius centre.prices centre.value answered are
    (centre_in_box m centre.prices radius answer.horizon prices wide) answer.value
