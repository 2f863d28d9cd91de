-- No prices in the box have a dual value above the bound.
use Rattle.law_parts.proofs.Common.{◌≡◌, ℕ, ◌+◌, ◌<◌, ◌≤◌, Bool, if◌then◌else◌, ℤ, pos, negsuc, neg_ℤ, ◌+ℤ◌, ◌-ℤ◌}
use Rattle.law_parts.proofs.Common.{◌*ℤ◌, ◌≤ℤ◌, List, [], ◌∷◌, ◌++◌, map, length, unsigned_abs, refl, sym, ap, subst}
use Rattle.law_parts.proofs.Common.{◌∙◌, arith, ints, clamps, *ℤ_comm, All, AllZip, mul-add, mul-sub}
use Rattle.law_parts.proofs.Common.{mul-mono_of, sum_below-le, sum_below-sub, AnyUnit, Thermal, Flat, Bid}
use Rattle.law_parts.proofs.Common.{NamedThermalUnit, NamedRenewableUnit, NamedBidUnit, PriceLists, Market}
use Rattle.law_parts.proofs.Common.{IsTop, IsFrom, IsMarket, IsRenewableUnit, IsBidUnit, price_limit, blocks_at}
use Rattle.law_parts.proofs.Common.{int_at, total, sum_below, IsDualValue, worth_of_demand}
use Rattle.law_parts.proofs.Common.{low_end, high_end, IsInBox, WeighedSchedule, MixtureLists}
use Rattle.law_parts.proofs.Common.{AreMixed, IsMixture, mixture_cost, lack, short, best_sold, best_bought, added}
use Rattle.law_parts.proofs.Common.{most_energy, most_reserve, mixture_bound}
use Rattle.law_parts.proofs.Box.{priced_in_box}
use Rattle.law_parts.proofs.Mean.{sum_below-times, at_an_end, at_most_quotient, positive_is, positive_low}
use Rattle.gap_proof.proofs.SumLaws.{lt_true, lt_false}
use Rattle.law_parts.proofs.Subgradients.{energy_price, reserve_price}
use Rattle.uc_model.specs.Laws.{ReserveFrom0, DualIsAtMostCost, PaymentsMakeUpTheGap}
use Rattle.law_parts.specs.MixtureLaws.{MixtureBoundHolds, MixtureBoundReachesCentre, PaymentsReachLeast}
use Rattle.law_parts.proofs.Flats.{AreFromLeast, renewables_top, bids_top}
use Rattle.gap_proof.proofs.Greatest.{at_most_greatest}
use Rattle.law_parts.proofs.Shares.{swap_factors, paid, powers, reserves, mixture_earns}

-- ---- what all units earn at best, in two parts

record AreParts (π : PriceLists) (us vs : List AnyUnit) (tops : List ℤ) : Type 0 where
  first : List ℤ
  second : List ℤ
  first_best : AllZip (λ (u : AnyUnit) (e : ℤ). IsTop u π e) us first
  second_best : AllZip (λ (u : AnyUnit) (e : ℤ). IsTop u π e) vs second
  sum : total tops ≡ total first +ℤ total second

parts : (π : PriceLists) (us vs : List AnyUnit) (tops : List ℤ) →
    AllZip (λ (u : AnyUnit) (e : ℤ). IsTop u π e) (us ++ vs) tops → AreParts π us vs tops
parts π [] vs tops h = record { first = []; second = tops; first_best = tt; second_best = h; sum = omega (arith, ints) }
parts π (u ∷ us) vs [] h = absurd h
parts π (u ∷ us) vs (e ∷ es) h =
    let rest = parts π us vs es h.1 in
    let is = rest.sum in
    record {
      first = e ∷ rest.first;
      second = rest.second;
      first_best = (h.0, rest.first_best);
      second_best = rest.second_best;
      sum = omega (arith, ints, is);
    }

-- ---- one period

module _ (m : Market) (x : MixtureLists) (π : PriceLists) where
  abbrev energy : ℕ → ℤ
  energy k = int_at π.energy k

  abbrev reserve : ℕ → ℤ
  reserve k = int_at π.reserve k

  abbrev sold : ℕ → ℤ
  sold k = total (map (λ (n : NamedRenewableUnit). best_sold n.unit k (energy k)) m.flat)

  abbrev bought : ℕ → ℤ
  bought k = total (map (λ (n : NamedBidUnit). best_bought (blocks_at n.unit k) (energy k)) m.bids)

  abbrev worth : ℕ → ℤ
  worth k = (energy k *ℤ int_at m.demand k) +ℤ (reserve k *ℤ int_at m.reserves k)

  abbrev given : ℕ → ℤ
  given k = paid π (powers π m.thermal x.entries k) (reserves π m.thermal x.entries k) k

  -- what the prices of a period add
  abbrev term : ℕ → ℤ
  term k = (((x.whole *ℤ worth k) -ℤ given k) -ℤ (x.whole *ℤ sold k)) -ℤ (x.whole *ℤ bought k)

  term_is : (k : ℕ) → term k ≡ added m x.whole (lack m x k) k (energy k) +ℤ (short m x k *ℤ reserve k)
  term_is k =
      let p = powers π m.thermal x.entries k in
      let r = reserves π m.thermal x.entries k in
      let a = mul-add x.whole (energy k *ℤ int_at m.demand k) (reserve k *ℤ int_at m.reserves k) in
      let b = swap_factors x.whole (energy k) (int_at m.demand k) in
      let c = swap_factors x.whole (reserve k) (int_at m.reserves k) in
      let d = mul-sub (energy k) (x.whole *ℤ int_at m.demand k) p in
      let e = mul-sub (reserve k) (x.whole *ℤ int_at m.reserves k) r in
      let f = *ℤ_comm (short m x k) (reserve k) in
      let g = mul-add x.whole (sold k) (bought k) in
      omega (arith, ints, a, b, c, d, e, f, g)

  sum_of_terms : (n : ℕ) →
      sum_below n term ≡ (((x.whole *ℤ sum_below n worth) -ℤ sum_below n given) -ℤ (x.whole *ℤ sum_below n sold))
      -ℤ (x.whole *ℤ sum_below n bought)
  sum_of_terms n =
      let a : ℕ → ℤ = λ k. x.whole *ℤ worth k in
      let b : ℕ → ℤ = λ k. x.whole *ℤ sold k in
      let c : ℕ → ℤ = λ k. x.whole *ℤ bought k in
      let first = sum_below-sub n (λ k. (a k -ℤ given k) -ℤ b k) c in
      let second = sum_below-sub n (λ k. a k -ℤ given k) b in
      let third = sum_below-sub n a given in
      let worths = sum_below-times x.whole n worth in
      let solds = sum_below-times x.whole n sold in
      let boughts = sum_below-times x.whole n bought in
      omega (arith, ints, first, second, third, worths, solds, boughts)

-- ---- a price of the box is one of its interval

positive_or_none : (z : ℤ) → pos 0 ≤ℤ z → pos (unsigned_abs z) ≡ z
positive_or_none (pos n) h = refl
positive_or_none (negsuc n) h = absurd (omega (arith, ints, h))

abbrev if_low : Bool → ℤ
if_low b = if b then neg_ℤ price_limit else pos 0

above_low : (low z high : ℤ) → IsFrom low high z →
    (unsigned_abs (z -ℤ low) ≤ unsigned_abs (high -ℤ low)) × (low +ℤ pos (unsigned_abs (z -ℤ low)) ≡ z)
above_low low z high h =
    let a = h.at_least in
    let b = h.at_most in
    let c = positive_or_none (z -ℤ low) (omega (arith, ints, a)) in
    let d = positive_or_none (high -ℤ low) (omega (arith, ints, a, b)) in
    (omega (arith, ints, b, c, d), omega (arith, ints, c))

module _ (m : Market) (x : MixtureLists) (centre : PriceLists) (radius : ℤ) (π : PriceLists)
    (box : IsInBox m centre radius π) where
  energy_at_most : (k : ℕ) → k < m.periods →
      added m x.whole (lack m x k) k (int_at π.energy k) ≤ℤ most_energy m x centre radius k
  energy_at_most k lt =
      let low = low_end m centre radius k in
      let high = high_end m centre radius k in
      let f : ℤ → ℤ = added m x.whole (lack m x k) k in
      let inside = subst (IsFrom low high) (energy_price m π k lt) (box.inside k (omega (arith, lt))) in
      let place = above_low low (int_at π.energy k) high inside in
      let is = ap f place.1 in
      let most = at_most_greatest (unsigned_abs (high -ℤ low)) (λ (i : ℕ). f (low +ℤ pos i))
      (unsigned_abs (int_at π.energy k -ℤ low)) place.0 in
      subst (λ (z : ℤ). z ≤ℤ most_energy m x centre radius k) is most

  reserve_at_most : (k : ℕ) → k < m.periods → (short m x k *ℤ int_at π.reserve k) ≤ℤ most_reserve m x centre radius k
  reserve_at_most k lt =
      let j = m.periods + k in
      let inside = subst (IsFrom (low_end m centre radius j) (high_end m centre radius j)) (reserve_price m π k)
      (box.inside j (omega (arith, lt))) in
      at_an_end (short m x k) (low_end m centre radius j) (high_end m centre radius j) (int_at π.reserve k) inside

  from_least : AreFromLeast π
  from_least k lt =
      let horizon = box.horizon in
      let below : k < m.periods = omega (arith, lt, horizon) in
      let inside = subst (IsFrom (low_end m centre radius k) (high_end m centre radius k)) (energy_price m π k below)
      (box.inside k (omega (arith, below))) in
      let low = inside.at_least in
      let least = ap (λ b. if_low b) (lt_true k m.periods below) in
      omega (arith, ints, clamps, low, least)

  -- the sum over the periods is at most that of the worst prices
  terms_at_most : sum_below m.periods (term m x π) ≤ℤ sum_below m.periods
      (λ k. most_energy m x centre radius k +ℤ most_reserve m x centre radius k)
  terms_at_most =
      sum_below-le m.periods (term m x π) (λ k. most_energy m x centre radius k +ℤ most_reserve m x centre radius k)
      (λ k lt.
      let is = term_is m x π k in
      let a = energy_at_most k lt in
      let b = reserve_at_most k lt in
      omega (arith, ints, is, a, b))

  -- as often as the whole says, a dual value is at most the cost and what the worst prices add
  whole_value : (value : ℤ) → IsMarket m → IsMixture m x → IsDualValue m π value →
      (x.whole *ℤ value) ≤ℤ (mixture_cost m x +ℤ sum_below m.periods
      (λ k. most_energy m x centre radius k +ℤ most_reserve m x centre radius k))
  whole_value value market mixture dual =
      let n = m.periods in
      let thermal = map (λ (u : NamedThermalUnit). Thermal u.unit) m.thermal in
      let flats = map (λ (u : NamedRenewableUnit). Flat u.unit) m.flat in
      let bids = map (λ (u : NamedBidUnit). Bid u.unit) m.bids in
      let behind = parts π (thermal ++ flats) bids dual.tops dual.best in
      let front = parts π thermal flats behind.first behind.first_best in
      let back = sym box.horizon in
      let mixed =
      subst (λ (t : ℕ). AllZip (λ (u : NamedThermalUnit) (es : List WeighedSchedule). AreMixed t x.whole u.unit
      es) m.thermal x.entries) back mixture.mixed in
      let flat_sizes =
      subst (λ (t : ℕ). All (λ (u : NamedRenewableUnit). IsRenewableUnit u.unit × (length u.unit.least ≡ t))
      m.flat) back market.flat in
      let bid_sizes =
      subst (λ (t : ℕ). All (λ (u : NamedBidUnit). IsBidUnit u.unit × (length u.unit.blocks ≡ t)) m.bids) back
      market.bids in
      let a = mixture_earns π x.whole m.thermal x.entries front.first mixed front.first_best in
      let b = renewables_top π m.flat front.second flat_sizes front.second_best in
      let c = bids_top π m.bids behind.second bid_sizes from_least behind.second_best in
      let over_given = ap (λ (t : ℕ). sum_below t (given m x π)) box.horizon in
      let over_sold = ap (λ (t : ℕ). sum_below t (sold m x π)) box.horizon in
      let over_bought = ap (λ (t : ℕ). sum_below t (bought m x π)) box.horizon in
      let some = mixture.some in
      let low : pos 0 ≤ℤ x.whole = omega (arith, ints, some) in
      let d = mul-mono_of x.whole (sum_below n (sold m x π)) (total front.second) low
      (omega (arith, ints, b, over_sold)) in
      let e = mul-mono_of x.whole (sum_below n (bought m x π)) (total behind.second) low
      (omega (arith, ints, c, over_bought)) in
      let whole = ap (λ (z : ℤ). x.whole *ℤ z) dual.is ∙ mul-sub x.whole (worth_of_demand m π) (total dual.tops) in
      let tops = ap (λ (z : ℤ). x.whole *ℤ z) behind.sum ∙ mul-add x.whole (total behind.first) (total behind.second) in
      let fronts = ap (λ (z : ℤ). x.whole *ℤ z) front.sum ∙ mul-add x.whole (total front.first) (total front.second) in
      let terms = sum_of_terms m x π n in
      let most = terms_at_most in
      omega (arith, ints, a, over_given, d, e, whole, tops, fronts, terms, most)

pub bound_holds : MixtureBoundHolds
unfolding mixture_bound
bound_holds m x centre radius π value market mixture box dual =
    let whole = whole_value m x centre radius π box value market mixture dual in
    let some = mixture.some in
    let e = ap (λ (z : ℤ). z *ℤ value) (positive_is x.whole some) in
    at_most_quotient value (mixture_cost m x +ℤ sum_below m.periods
    (λ k. most_energy m x centre radius k +ℤ most_reserve m x centre radius k)) (unsigned_abs x.whole)
    (positive_low x.whole some)
    (omega (arith, ints, whole, e))

pub bound_reaches : MixtureBoundReachesCentre
bound_reaches m x centre radius value market mixture prices wide dual =
    bound_holds m x centre radius centre value market mixture (priced_in_box m centre radius prices wide) dual

-- ---- payments and surplus

reserves_from_zero : (m : Market) (centre : PriceLists) (radius : ℤ) (π : PriceLists) → IsInBox m centre radius π →
    ReserveFrom0 m π
reserves_from_zero m centre radius π box = record {
  horizon = box.horizon;
  reserve = λ k lt.
      let j = m.periods + k in
      let inside = subst (IsFrom (low_end m centre radius j) (high_end m centre radius j)) (reserve_price m π k)
      (box.inside j (omega (arith, lt))) in
      let low = inside.at_least in
      let least = ap (λ b. if_low b) (lt_false j m.periods (omega arith)) in
      omega (arith, ints, clamps, low, least);
}

pub payments_reach : DualIsAtMostCost → PaymentsMakeUpTheGap → PaymentsReachLeast
payments_reach at_most makes_up m plan x centre radius π scheduled payments surplus sum market feasible mixture box
    settled =
    let value = worth_of_demand m π -ℤ total settled.tops in
    let dual : IsDualValue m π value = record { tops = settled.tops; best = settled.best; is = refl } in
    let most = bound_holds m x centre radius π value market mixture box dual in
    let weak = at_most m plan π value feasible (reserves_from_zero m centre radius π box) dual in
    let is = makes_up m plan π value scheduled payments surplus sum feasible dual settled in
    omega (arith, ints, clamps, most, weak, is)
