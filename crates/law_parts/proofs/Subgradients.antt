-- A row's plane is nowhere below the dual.
use Rattle.law_parts.proofs.Common.{◌≡◌, ℕ, zero, suc, ◌+◌, ◌-◌, ◌*◌, ◌<◌, Bool}
use Rattle.law_parts.proofs.Common.{if◌then◌else◌, ℤ, pos, ◌+ℤ◌, ◌-ℤ◌, ◌*ℤ◌, ◌≤ℤ◌, List, [], ◌∷◌, map, length, refl}
use Rattle.law_parts.proofs.Common.{sym, ap, ◌∙◌, subst, arith, ints, get_or-map-range_with_len, *ℤ_comm}
use Rattle.law_parts.proofs.Common.{AllZip, zip, AnyUnit, Thermal, Flat, Bid, PriceLists, Schedule, Market, units}
use Rattle.law_parts.proofs.Common.{Proposal, HasTotals, Fits, int_at, total, sum_below, zip_with, total_power}
use Rattle.law_parts.proofs.Common.{total_reserve, worth_of_demand, IsDualValue, mul-sub, sum_below-same}
use Rattle.law_parts.proofs.Common.{sum_below-add, sum_below-sub, total-sum_below, total-mul, price_at, slope_at}
use Rattle.law_parts.proofs.Common.{height_of, IsAnswered}
use Rattle.gap_proof.proofs.SumLaws.{lt_true, lt_false}
use Rattle.uc_model.specs.Earnings.{revenue, supply_in, cost_of, earnings, IsTop}
use Rattle.uc_model.specs.Schedules.{IsFeasible, reserve_in}

-- ---- price places

-- a sum over the first places and over those behind them
pub sum_below-append : (a b : ℕ) (f : ℕ → ℤ) → sum_below (a + b) f ≡ sum_below a f +ℤ sum_below b (λ k. f (a + k))
sum_below-append a zero f = let e = ap (λ (n : ℕ). sum_below n f) (let z : a + 0 ≡ a = omega arith in z) in
    omega (arith, ints, e)
sum_below-append a (suc b) f =
    let z : a + suc b ≡ suc (a + b) = omega arith in
    let e = ap (λ (n : ℕ). sum_below n f) z in
    omega (arith, ints, e, sum_below-append a b f)

energy_slope : (m : Market) (r : Proposal) (k : ℕ) → k < m.periods →
    slope_at m r k ≡ int_at m.demand k -ℤ int_at r.supply k
energy_slope m r k h =
    ap (λ (b : Bool). if b then int_at m.demand k -ℤ int_at r.supply k else int_at m.reserves (k - m.periods) -ℤ int_at
    r.reserve (k - m.periods)) (lt_true k m.periods h)

reserve_slope : (m : Market) (r : Proposal) (k : ℕ) →
    slope_at m r (m.periods + k) ≡ int_at m.reserves k -ℤ int_at r.reserve k
reserve_slope m r k =
    let place : (m.periods + k) - m.periods ≡ k = omega arith in
    ap (λ (b : Bool). if b then int_at m.demand (m.periods + k) -ℤ int_at r.supply (m.periods + k) else int_at
    m.reserves ((m.periods + k) - m.periods) -ℤ int_at r.reserve ((m.periods + k) - m.periods))
    (lt_false (m.periods + k) m.periods (omega arith))
    ∙ ap (λ (i : ℕ). int_at m.reserves i -ℤ int_at r.reserve i) place

pub energy_price : (m : Market) (π : PriceLists) (k : ℕ) → k < m.periods → price_at m π k ≡ int_at π.energy k
energy_price m π k h = ap (λ (b : Bool). if b then int_at π.energy k else int_at π.reserve (k - m.periods))
    (lt_true k m.periods h)

pub reserve_price : (m : Market) (π : PriceLists) (k : ℕ) → price_at m π (m.periods + k) ≡ int_at π.reserve k
reserve_price m π k =
    let place : (m.periods + k) - m.periods ≡ k = omega arith in
    ap (λ (b : Bool). if b then int_at π.energy (m.periods + k) else int_at π.reserve ((m.periods + k) - m.periods))
    (lt_false (m.periods + k) m.periods (omega arith))
    ∙ ap (λ (i : ℕ). int_at π.reserve i) place

-- what the slopes add at prices, period by period
pub slopes_by_period : (m : Market) (r : Proposal) (π : PriceLists) →
    sum_below (2 * m.periods) (λ j. slope_at m r j *ℤ price_at m π j)
    ≡ sum_below m.periods
    (λ k. ((int_at m.demand k -ℤ int_at r.supply k) *ℤ int_at π.energy k)
    +ℤ ((int_at m.reserves k -ℤ int_at r.reserve k) *ℤ int_at π.reserve k))
slopes_by_period m r π =
    let n = m.periods in
    let f : ℕ → ℤ = λ j. slope_at m r j *ℤ price_at m π j in
    let e : ℕ → ℤ = λ k. (int_at m.demand k -ℤ int_at r.supply k) *ℤ int_at π.energy k in
    let g : ℕ → ℤ = λ k. (int_at m.reserves k -ℤ int_at r.reserve k) *ℤ int_at π.reserve k in
    let two : 2 * m.periods ≡ m.periods + m.periods = omega arith in
    ap (λ (i : ℕ). sum_below i f) two
    ∙ sum_below-append n n f
    ∙ ap (λ (z : ℤ). z +ℤ sum_below n (λ k. f (n + k)))
    (sum_below-same n f e (λ k h. ap (λ (z : ℤ). z *ℤ price_at m π k) (energy_slope m r k h) ∙
    ap (λ (z : ℤ). (int_at m.demand k -ℤ int_at r.supply k) *ℤ z) (energy_price m π k h)))
    ∙ ap (λ (z : ℤ). sum_below n e +ℤ z)
    (sum_below-same n (λ k. f (n + k)) g (λ k h. ap (λ (z : ℤ). z *ℤ price_at m π (n + k)) (reserve_slope m r k) ∙
    ap (λ (z : ℤ). (int_at m.reserves k -ℤ int_at r.reserve k) *ℤ z) (reserve_price m π k)))
    ∙ sym (sum_below-add n e g)

-- ---- what schedules earn

feasible_length : (u : AnyUnit) (n : ℕ) (s : Schedule) → IsFeasible u n s → length s.on ≡ n
feasible_length (Thermal g) n s h = h.schedule.on
feasible_length (Flat r) n s h = h.schedule.on
feasible_length (Bid b) n s h = h.schedule.on

-- what prices pay for one place of a schedule
abbrev pay_at : PriceLists → AnyUnit × Schedule → ℕ → ℤ
pay_at π p k = (int_at π.energy k *ℤ supply_in p.0 p.1 (suc k)) +ℤ (int_at π.reserve k *ℤ reserve_in p.1 (suc k))

revenue_over : (π : PriceLists) (u : AnyUnit) (n : ℕ) (s : Schedule) → IsFeasible u n s →
    revenue u π s ≡ sum_below n (pay_at π (u, s))
revenue_over π u n s h = ap (λ (m : ℕ). sum_below m (pay_at π (u, s))) (feasible_length u n s h)

-- schedules earn their revenue less their cost
earned_is : (π : PriceLists) (n : ℕ) (us : List AnyUnit) (ss : List Schedule) → AllZip (λ u s. IsFeasible u n s) us ss →
    total (zip_with (λ u s. earnings u π s) us ss) ≡ total (map (λ p. sum_below n (pay_at π p)) (zip us ss)) -ℤ total
    (zip_with cost_of us ss)
earned_is π n [] [] h = refl
earned_is π n [] (s ∷ ss) h = absurd h
earned_is π n (u ∷ us) [] h = absurd h
earned_is π n (u ∷ us) (s ∷ ss) h =
    let r = revenue_over π u n s h.0 in
    omega (arith, ints, earned_is π n us ss h.1, r)

-- their revenue, place by place
revenue_is : (π : PriceLists) (n : ℕ) (us : List AnyUnit) (ss : List Schedule) →
    total (map (λ p. sum_below n (pay_at π p)) (zip us ss)) ≡ sum_below n
    (λ k. (int_at π.energy k *ℤ total_power us ss k) +ℤ (int_at π.reserve k *ℤ total_reserve us ss k))
revenue_is π n us ss =
    total-sum_below n (pay_at π) (zip us ss)
    ∙ sum_below-same n _ _ (λ k h. total-mul (int_at π.energy k) (int_at π.reserve k)
    (λ (p : AnyUnit × Schedule). supply_in p.0 p.1 (suc k)) (λ (p : AnyUnit × Schedule). reserve_in p.1 (suc k))
    (zip us ss))

-- they earn no more than the best schedules do
earned_at_most : (π : PriceLists) (us : List AnyUnit) (ss : List Schedule) (tops : List ℤ) →
    AllZip (λ u s. IsFeasible u (length π.energy) s) us ss → AllZip (λ u e. IsTop u π e) us tops →
    total (zip_with (λ u s. earnings u π s) us ss) ≤ℤ total tops
earned_at_most π [] [] [] h t = omega (arith, ints)
earned_at_most π [] [] (e ∷ es) h t = absurd t
earned_at_most π [] (s ∷ ss) es h t = absurd h
earned_at_most π (u ∷ us) [] es h t = absurd h
earned_at_most π (u ∷ us) (s ∷ ss) [] h t = absurd t
earned_at_most π (u ∷ us) (s ∷ ss) (e ∷ es) h t =
    let one = t.0.best.greatest s h.0 in
    let is = t.0.earns in
    omega (arith, ints, earned_at_most π us ss es h.1 t.1, one, is)

-- answers earn what the best schedules do
answers_earn : (π : PriceLists) (us : List AnyUnit) (ss : List Schedule) (tops : List ℤ) →
    AllZip (λ u s. Fits u π s) us ss → AllZip (λ u e. IsTop u π e) us tops →
    total tops ≤ℤ total (zip_with (λ u s. earnings u π s) us ss)
answers_earn π [] [] [] h t = omega (arith, ints)
answers_earn π [] [] (e ∷ es) h t = absurd t
answers_earn π [] (s ∷ ss) es h t = absurd h
answers_earn π (u ∷ us) [] es h t = absurd h
answers_earn π (u ∷ us) (s ∷ ss) [] h t = absurd t
answers_earn π (u ∷ us) (s ∷ ss) (e ∷ es) h t =
    let one = h.0.best.greatest t.0.schedule t.0.best.feasible in
    let is = t.0.earns in
    omega (arith, ints, answers_earn π us ss es h.1 t.1, one, is)

answers_feasible : (π : PriceLists) (us : List AnyUnit) (ss : List Schedule) → AllZip (λ u s. Fits u π s) us ss →
    AllZip (λ u s. IsFeasible u (length π.energy) s) us ss
answers_feasible π [] [] h = tt
answers_feasible π [] (s ∷ ss) h = absurd h
answers_feasible π (u ∷ us) [] h = absurd h
answers_feasible π (u ∷ us) (s ∷ ss) h = (h.0.best.feasible, answers_feasible π us ss h.1)

-- ---- the plane

-- the slopes of a row: what demand and requirement lack of the answers
slopes_at : (m : Market) (r : Proposal) (ss : List Schedule) (k : ℕ) → HasTotals m ss r → k < m.periods →
    (int_at r.supply k ≡ total_power (units m) ss k) × (int_at r.reserve k ≡ total_reserve (units m) ss k)
slopes_at m r ss k h lt = (
  ap (λ (xs : List ℤ). int_at xs k) h.supply ∙
      get_or-map-range_with_len (total_power (units m) ss) 0 m.periods k k (pos 0) lt (omega arith),
  ap (λ (xs : List ℤ). int_at xs k) h.reserve ∙
      get_or-map-range_with_len (total_reserve (units m) ss) 0 m.periods k k (pos 0) lt (omega arith),
)

-- a product with a difference, from the other side
sub-mul : (a b c : ℤ) → (a -ℤ b) *ℤ c ≡ (c *ℤ a) -ℤ (c *ℤ b)
sub-mul a b c = *ℤ_comm (a -ℤ b) c ∙ mul-sub c a b

-- what the slopes add at prices is the worth of demand less the revenue of the answers
slopes_worth : (m : Market) (r : Proposal) (ss : List Schedule) (π : PriceLists) → HasTotals m ss r →
    sum_below (2 * m.periods) (λ j. slope_at m r j *ℤ price_at m π j) ≡ worth_of_demand m π -ℤ total
    (map (λ p. sum_below m.periods (pay_at π p)) (zip (units m) ss))
slopes_worth m r ss π h =
    let n = m.periods in
    let worth : ℕ → ℤ = λ k. (int_at π.energy k *ℤ int_at m.demand k) +ℤ (int_at π.reserve k *ℤ int_at m.reserves k) in
    let paid : ℕ → ℤ = λ k. (int_at π.energy k *ℤ total_power (units m) ss k)
    +ℤ (int_at π.reserve k *ℤ total_reserve (units m) ss k) in
    slopes_by_period m r π
    ∙ sum_below-same n _ (λ k. worth k -ℤ paid k) (λ k lt.
    let same = slopes_at m r ss k h lt in
    let a = sub-mul (int_at m.demand k) (int_at r.supply k) (int_at π.energy k) in
    let b = sub-mul (int_at m.reserves k) (int_at r.reserve k) (int_at π.reserve k) in
    let e = ap (λ (z : ℤ). int_at π.energy k *ℤ z) same.0 in
    let f = ap (λ (z : ℤ). int_at π.reserve k *ℤ z) same.1 in
    omega (arith, ints, a, b, e, f))
    ∙ sum_below-sub n worth paid
    ∙ ap (λ (z : ℤ). sum_below n worth -ℤ z) (sym (revenue_is π n (units m) ss))

-- the subgradient inequality: a row's plane is nowhere below the dual
pub plane_above : (m : Market) (r : Proposal) (π : PriceLists) (value : ℤ) → IsAnswered m r →
    length π.energy ≡ m.periods → IsDualValue m π value →
    value ≤ℤ (height_of m r +ℤ sum_below (2 * m.periods) (λ j. slope_at m r j *ℤ price_at m π j))
plane_above m r π value h horizon dual =
    let us = units m in
    let ss = h.schedules in
    let there = answers_feasible r.prices us ss h.answers in
    let feasible : AllZip (λ u s. IsFeasible u m.periods s) us ss =
    subst (λ (n : ℕ). AllZip (λ u s. IsFeasible u n s) (units m) h.schedules) h.horizon there in
    let here : AllZip (λ u s. IsFeasible u (length π.energy) s) us ss =
    subst (λ (n : ℕ). AllZip (λ u s. IsFeasible u n s) (units m) h.schedules) (sym horizon) feasible in
    let most = earned_at_most π us ss dual.tops here dual.best in
    let least = answers_earn r.prices us ss h.value.tops h.answers h.value.best in
    let earned = earned_is π m.periods us ss feasible in
    let earned_there = earned_is r.prices m.periods us ss feasible in
    let worth = slopes_worth m r ss π h.totals in
    let worth_there = slopes_worth m r ss r.prices h.totals in
    let is = dual.is in
    let was = h.value.is in
    omega (arith, ints, most, least, earned, earned_there, worth, worth_there, is, was)
