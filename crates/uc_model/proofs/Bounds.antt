-- How large the powers, the cost and the earnings of one unit's feasible schedule can be.
use Rattle.uc_model.proofs.Common.{◌≡◌, ℕ, suc, ◌-◌, ◌<◌, ◌≤◌, ◌⊎◌, inl, inr, Bool, true, false, cond, Some, None, ℤ}
use Rattle.uc_model.proofs.Common.{pos, ◌+ℤ◌, ◌-ℤ◌, ◌*ℤ◌, ◌≤ℤ◌, List, [], ◌∷◌, ◌++◌, map, length, refl, sym, ap, ◌∙◌}
use Rattle.uc_model.proofs.Common.{subst, arith, *ℤ_comm, *ℤ-zero, cases_lt, ints, clamps, length-reverse}
use Rattle.uc_model.proofs.Common.{get_or-reverse, get_or_past, int_min, All, find, option_map_or, reverse, nat_le}
use Rattle.uc_model.proofs.Common.{slice_get, slice_index, slice_index_or, Block, Lag, Point, GivesWithin}
use Rattle.uc_model.proofs.Common.{StartCostsAreWithin, PowerCostsAreWithin, OutputsAreWithin}
use Rattle.uc_model.proofs.Common.{UnitScheduleCostsAreWithin}
use Rattle.uc_model.proofs.Common.{EarningsAreWithin, ThermalUnit, BidUnit, AnyUnit, Thermal, Flat, Bid, PriceLists}
use Rattle.uc_model.proofs.Common.{Schedule, start_cost_of, worth_of, supply_in, revenue, line_at, least_line, envelope}
use Rattle.uc_model.proofs.Common.{IsLag, IsStartCost, IsPoint, Spans, IsThermalUnit, IsBlock, IsBidUnit, IsUnit}
use Rattle.uc_model.proofs.Common.{ArePrices, power_in, reserve_in, starts_in, time_down, IsPeriod, blocks_at, width_of}
use Rattle.uc_model.proofs.Common.{IsFeasible, IsThermalFeasible, int_at, total}
use Rattle.uc_model.proofs.EnvelopeLaws.{least_le, least_reached, item_is_in, All-is_in, some_last, envelope_is}
use Rattle.plain_lists.proofs.IntLaws.{mul-mono_of}
use Rattle.plain_lists.proofs.ListLaws.{none_some, same_item, head_of, tail_of, item_of, at_place, map-append}
use Rattle.plain_lists.proofs.ListLaws.{total-append}
use Rattle.uc_model.proofs.PlanShapes.{lengths_of}
use Rattle.plain_lists.proofs.SignedLaws.{IsWithin, sum_within, negated_within, signed_product_within, sum_at_most}
use Rattle.plain_lists.proofs.SignedLaws.{wider}

none_within : (n : ℕ) → IsWithin n (pos 0)
none_within n = record { at_least = omega (arith, ints); at_most = omega (arith, ints) }

-- ---- the width of one more block

pub width-append : (bs : List Block) (b : Block) → width_of (bs ++ b ∷ []) ≡ width_of bs +ℤ b.width
width-append bs b =
    let e = ap total (map-append (λ (c : Block). c.width) bs (b ∷ [])) ∙
    total-append (map (λ (c : Block). c.width) bs) (b.width ∷ []) in
    omega (arith, ints, e)

-- ---- costs of starts and of powers

found_has : {X : Type 0} → (P : X → Type 0) (test : X → Bool) (xs : List X) → All P xs → (x : X) →
    find test xs ≡ Some x → P x
found_has P test [] h x is = absurd (none_some x is)
found_has P test (y ∷ ys) h x is =
    elim (test y) as (λ b. cond b (Some y) (find test ys) ≡ Some x → P x) [
      | true ↦ λ e. subst P (sym (same_item y x e)) (head_of P y ys h)
      | false ↦ λ e. found_has P test ys (tail_of P y ys h) x e
    ] is

reversed_has : {X : Type 0} → (P : X → Type 0) (xs : List X) → All P xs → All P (reverse xs)
reversed_has P xs h k d low =
    let n = length-reverse xs in
    subst P (sym (get_or-reverse xs k d (omega (arith, low, n)))) (h (length xs - 1 - k) d (omega (arith, low, n)))

pub start_costs_within : StartCostsAreWithin
start_costs_within lags down h =
    let first : IsStartCost (option_map_or (λ (l : Lag). l.cost) (slice_get lags 0) (pos 0)) =
    elim (slice_get lags 0) as (λ o. slice_get lags 0 ≡ o →
    IsStartCost (option_map_or (λ (l : Lag). l.cost) o (pos 0))) [
      | None ↦ λ _. record { at_least = omega (arith, ints); at_most = omega (arith, ints) }
      | Some l ↦ λ is. (item_of IsLag lags 0 l h is).cost
    ] refl in
    elim (find (λ (l : Lag). nat_le l.lag down) (reverse lags)) as (λ o. find (λ (l : Lag). nat_le l.lag down)
    (reverse lags) ≡ o → IsStartCost
    (option_map_or (λ (l : Lag). l.cost) o (option_map_or (λ (l : Lag). l.cost) (slice_get lags 0) (pos 0)))) [
      | None ↦ λ _. first
      | Some l ↦
          λ is. (found_has IsLag (λ (l : Lag). nat_le l.lag down) (reverse lags) (reversed_has IsLag lags h) l is).cost
    ] refl

-- a line isn't above its point's cost on the side where it falls
falls : (k x : ℤ) (p : Point) → ((pos 0 ≤ℤ k) × ((x -ℤ p.at) ≤ℤ pos 0)) ⊎ ((k ≤ℤ pos 0) × (pos 0 ≤ℤ (x -ℤ p.at))) →
    line_at k x p ≤ℤ p.cost
falls k x p (inl h) =
    let e = mul-mono_of k (x -ℤ p.at) (pos 0) h.0 h.1 in
    let f = *ℤ-zero k in
    omega (arith, ints, e, f)
falls k x p (inr h) =
    let e = mul-mono_of (x -ℤ p.at) k (pos 0) h.1 h.0 in
    let f = *ℤ-zero (x -ℤ p.at) in
    let g = *ℤ_comm k (x -ℤ p.at) in
    omega (arith, ints, e, f, g)

sign : (k : ℤ) → (pos 0 ≤ℤ k) ⊎ (k ≤ℤ pos 0)
sign k = grind (arith, ints)

-- the least line is at most the cost of the last point or of the first
least_at_most : (ps : List Point) (x k : ℤ) → 1 ≤ length ps → All IsPoint ps → Spans ps x x →
    least_line ps x k ≤ℤ pos 10000000000000
least_at_most ps x k some h span =
    let d : Point = record { at = pos 0; cost = pos 0 } in
    let n = some_last ps some in
    let last_is = n.1 in
    let last_low : n.0 < length ps = omega (arith, last_is) in
    let first_low : 0 < length ps = omega (arith, some) in
    let first = slice_index_or ps 0 d in
    let last = slice_index_or ps n.0 d in
    let first_at = span.first d in
    let last_at = span.last n.0 d n.1 in
    elim (sign k) [
      | inl up ↦
          let a = least_le ps x k last (item_is_in ps n.0 d last_low) in
          let b = falls k x last (inl (up, omega (arith, ints, last_at))) in
          let c = (h n.0 d last_low).cost.at_most in
          omega (arith, ints, a, b, c)
      | inr down ↦
          let a = least_le ps x k first (item_is_in ps 0 d first_low) in
          let b = falls k x first (inr (down, omega (arith, ints, first_at))) in
          let c = (h 0 d first_low).cost.at_most in
          omega (arith, ints, a, b, c)
    ]

at_zero : (x : ℤ) (p : Point) → line_at (pos 0) x p ≡ p.cost
at_zero x p = let e = *ℤ_comm (pos 0) (x -ℤ p.at) in let f = *ℤ-zero (x -ℤ p.at) in omega (arith, ints, e, f)

pub power_costs_within : PowerCostsAreWithin
power_costs_within ps x some h span =
    let is = envelope_is ps x some h span in
    let zero_price = is.greatest (pos 0) in
    let least = least_reached ps x (pos 0) some in
    let reached = least.2 in
    let e = at_zero x least.0 in
    let low = (All-is_in IsPoint ps h least.0 least.1).cost.at_least in
    let at = is.attained.1 in
    let high = least_at_most ps x is.attained.0 some h span in
    record { at_least = omega (arith, ints, zero_price, reached, e, low); at_most = omega (arith, ints, at, high) }

-- ---- powers and reserves

-- the power and the reserve of a period of a thermal unit are together at most its greatest power
thermal_output : (g : ThermalUnit) (s : Schedule) (n : ℕ) → IsThermalUnit g → IsThermalFeasible g n s → (k : ℕ) →
    k < n →
    (pos (slice_index s.power k) +ℤ pos (slice_index s.reserve k)) ≤ℤ g.max_power
thermal_output g s n unit h k low =
    let long = h.schedule.on in
    let period : IsPeriod s (suc k) = record { from_one = omega arith; to_last = omega (arith, low, long) } in
    elim (slice_index_or s.on k false) as (λ b. slice_index_or s.on k false ≡ b →
    (pos (slice_index s.power k) +ℤ pos (slice_index s.reserve k)) ≤ℤ g.max_power) [
      | true ↦ λ on.
          let e = ap (λ (b : Bool). cond b (pos (slice_index s.power k) -ℤ g.min_power) (pos 0)) on in
          let most = h.dispatch.greatest (suc k) period on in
          omega (arith, ints, clamps, e, most)
      | false ↦ λ off.
          let none = h.schedule.off k low off in
          let p = ap pos none.0 in
          let r = ap pos none.1 in
          let least = unit.min_power.at_least in
          let range = unit.range in
          omega (arith, ints, p, r, least, range)
    ] refl

output_in : (u : AnyUnit) (s : Schedule) (n : ℕ) → IsUnit u → IsFeasible u n s → (k : ℕ) → k < n → GivesWithin u s k
output_in (Thermal g) s n unit h k low =
    let most = thermal_output g s n unit h k low in
    let top = unit.max_power.at_most in
    record {
      least = omega (arith, ints);
      most = omega (arith, ints, most, top);
      reserve =
          omega (arith, ints, most, top);
    }
output_in (Flat r) s n unit h k low =
    let at = h.most k low in
    let none = ap pos (h.reserve k low) in
    elim (cases_lt k (length r.most)) [
      | inl inside ↦
          let top = (unit.most k (pos 0) inside).at_most in
          record {
            least = omega (arith, ints);
            most = omega (arith, ints, at, top);
            reserve =
                omega (arith, ints, none);
          }
      | inr past ↦
          let top = get_or_past r.most k (pos 0) past in
          record {
            least = omega (arith, ints);
            most = omega (arith, ints, at, top);
            reserve =
                omega (arith, ints, none);
          }
    ]
output_in (Bid b) s n unit h k low =
    let at = h.most k low in
    let none = ap pos (h.reserve k low) in
    elim (cases_lt k (length b.blocks)) [
      | inl inside ↦
          let top = (unit.blocks k [] inside).width in
          record {
            least = omega (arith, ints, at, top);
            most = omega (arith, ints);
            reserve =
                omega (arith, ints, none);
          }
      | inr past ↦
          let top = ap width_of (get_or_past b.blocks k [] past) in
          record {
            least = omega (arith, ints, at, top);
            most = omega (arith, ints);
            reserve =
                omega (arith, ints, none);
          }
    ]

-- a schedule that gives nothing in a period
no_output : (u : AnyUnit) (s : Schedule) (k : ℕ) → slice_index s.power k ≡ 0 → slice_index s.reserve k ≡ 0 →
    GivesWithin u s k
no_output (Thermal g) s k p r = let a = ap pos p in let b = ap pos r in
    record { least = omega (arith, ints, a); most = omega (arith, ints, a); reserve = omega (arith, ints, b) }
no_output (Flat g) s k p r = let a = ap pos p in let b = ap pos r in
    record { least = omega (arith, ints, a); most = omega (arith, ints, a); reserve = omega (arith, ints, b) }
no_output (Bid g) s k p r = let a = ap pos p in let b = ap pos r in
    record { least = omega (arith, ints, a); most = omega (arith, ints, a); reserve = omega (arith, ints, b) }

pub outputs_within : OutputsAreWithin
outputs_within u s n unit h k =
    let l = lengths_of u s n h in
    let p = l.1 in
    let r = l.2 in
    elim (cases_lt k n) [
      | inl inside ↦ output_in u s n unit h k inside
      | inr past ↦ no_output u s k (get_or_past s.power k 0 (omega (arith, p, past)))
          (get_or_past s.reserve k 0 (omega (arith, r, past)))
    ]

-- ---- what a schedule costs

-- what blocks are worth, for a power that isn't negative
worth_within : (bs : List Block) (x : ℤ) → All IsBlock bs → pos 0 ≤ℤ x →
    (pos 0 ≤ℤ worth_of bs x) × (worth_of bs x ≤ℤ (pos 10000000 *ℤ x))
worth_within [] x h low =
    let p = mul-mono_of (pos 10000000) (pos 0) x (omega (arith, ints)) low in
    let none = *ℤ-zero (pos 10000000) in
    (omega (arith, ints), omega (arith, ints, p, none))
worth_within (b ∷ bs) x h low =
    let here = head_of IsBlock b bs h in
    let wide = here.width.at_least in
    let taken = int_min x b.width in
    let t : pos 0 ≤ℤ taken = omega (arith, ints, clamps, wide, low) in
    let rest : pos 0 ≤ℤ (x -ℤ taken) = omega (arith, ints, clamps) in
    let r = worth_within bs (x -ℤ taken) (tail_of IsBlock b bs h) rest in
    let a = r.0 in
    let c = r.1 in
    let high = mul-mono_of taken b.price (pos 10000000) t here.price.at_most in
    let floor_ = mul-mono_of taken (pos 0) b.price t here.price.at_least in
    let turn = *ℤ_comm taken b.price in
    let turned = *ℤ_comm taken (pos 10000000) in
    let none = *ℤ-zero taken in
    (omega (arith, ints, a, floor_, turn, none), omega (arith, ints, c, high, turn, turned))

-- ---- what a feasible schedule costs and earns

supply_within : (u : AnyUnit) (s : Schedule) (k : ℕ) → GivesWithin u s k → IsWithin 1000000000 (supply_in u s (suc k))
supply_within (Thermal g) s k o = let a = o.least in let b = o.most in
    record { at_least = omega (arith, ints, a); at_most = omega (arith, ints, b) }
supply_within (Flat r) s k o = let a = o.least in let b = o.most in
    record { at_least = omega (arith, ints, a); at_most = omega (arith, ints, b) }
supply_within (Bid c) s k o = let a = o.least in let b = o.most in
    record { at_least = omega (arith, ints, a); at_most = omega (arith, ints, b) }

cond_within : (b : Bool) (n : ℕ) (x : ℤ) → IsWithin n x → IsWithin n (cond b x (pos 0))
cond_within true n x h = h
cond_within false n x h = none_within n

-- the cost of a power, and of a start, at place k of the horizon
module _ (g : ThermalUnit) (s : Schedule) (n : ℕ) (unit : IsThermalUnit g) (h : IsThermalFeasible g n s) where
  power_cost_within : (k : ℕ) → k < n →
      IsWithin 10000000000000 (cond (slice_index_or s.on k false) (envelope g.points (power_in s (suc k))) (pos 0))
  power_cost_within k low =
      let long = h.schedule.on in
      let period : IsPeriod s (suc k) = record { from_one = omega arith; to_last = omega (arith, low, long) } in
      elim (slice_index_or s.on k false) as (λ b. slice_index_or s.on k false ≡ b →
      IsWithin 10000000000000 (cond b (envelope g.points (power_in s (suc k))) (pos 0))) [
        | true ↦ λ on.
            let e = ap (λ (b : Bool). cond b (pos (slice_index s.power k) -ℤ g.min_power) (pos 0)) on in
            let least = h.dispatch.least (suc k) period on in
            let most = thermal_output g s n unit h k low in
            power_costs_within g.points (power_in s (suc k)) unit.some_point unit.points (record {
              first = λ d. let f = unit.span.first d in omega (arith, ints, e, least, f);
              last = λ m d is. let l = unit.span.last m d is in omega (arith, ints, most, l);
            })
        | false ↦ λ off. none_within 10000000000000
      ] refl

  start_within : (k : ℕ) → k < n →
      IsWithin 10000000000000 (cond (starts_in g s (suc k)) (start_cost_of g.lags (time_down g s k)) (pos 0))
  start_within k low =
      let c = start_costs_within g.lags (time_down g s k) unit.lags in
      let a = c.at_least in
      cond_within (starts_in g s (suc k)) 10000000000000 _
      (record { at_least = omega (arith, ints, a); at_most = c.at_most })

bid_blocks : (b : BidUnit) → IsBidUnit b → (k : ℕ) → All IsBlock (blocks_at b k)
bid_blocks b unit k = at_place (All IsBlock) [] (λ j d i. absurd (omega (arith, i))) b.blocks
    (λ j d i. (unit.blocks j d i).blocks) k

bid_worth_within : (b : BidUnit) (s : Schedule) (n : ℕ) → IsBidUnit b → IsFeasible (Bid b) n s → (k : ℕ) → k < n →
    IsWithin 10000000000000000 (worth_of (blocks_at b k) (power_in s (suc k)))
bid_worth_within b s n unit h k low =
    let few = (output_in (Bid b) s n unit h k low).least in
    let w = worth_within (blocks_at b k) (power_in s (suc k)) (bid_blocks b unit k) (omega (arith, ints)) in
    let a = w.0 in
    let c = w.1 in
    let top = mul-mono_of (pos 10000000) (power_in s (suc k)) (pos 1000000000) (omega (arith, ints))
    (omega (arith, ints, few)) in
    record { at_least = omega (arith, ints, a); at_most = omega (arith, ints, c, top) }

pub costs_within : UnitScheduleCostsAreWithin
costs_within (Thermal g) s n few unit h =
    let long = h.schedule.on in
    let own = subst (λ (m : ℕ). IsThermalFeasible g m s) (sym long) h in
    let p = sum_at_most 10000000000000 168 (length s.on)
    (λ k. cond (slice_index_or s.on k false) (envelope g.points (power_in s (suc k))) (pos 0))
    (omega (arith, long, few)) (power_cost_within g s (length s.on) unit own) in
    let t = sum_at_most 10000000000000 168 (length s.on)
    (λ k. cond (starts_in g s (suc k)) (start_cost_of g.lags (time_down g s k)) (pos 0))
    (omega (arith, long, few)) (start_within g s (length s.on) unit own) in
    wider 3360000000000000 1700000000000000000 _ (omega arith) (sum_within 1680000000000000 1680000000000000 _ _ p t)
costs_within (Flat r) s n few unit h = none_within 1700000000000000000
costs_within (Bid b) s n few unit h =
    let long = h.schedule.on in
    let own = subst (λ (m : ℕ). IsFeasible (Bid b) m s) (sym long) h in
    let w = sum_at_most 10000000000000000 168 (length s.on) (λ k. worth_of (blocks_at b k) (power_in s (suc k)))
    (omega (arith, long, few)) (bid_worth_within b s (length s.on) unit own) in
    negated_within 1700000000000000000 _ (wider 1680000000000000000 1700000000000000000 _ (omega arith) w)

module _ (u : AnyUnit) (π : PriceLists) (s : Schedule) (unit : IsUnit u) (prices : ArePrices π)
    (h : IsFeasible u (length π.energy) s) where
  paid_within : (k : ℕ) → k < length π.energy →
      IsWithin 10100000000000000
      ((int_at π.energy k *ℤ supply_in u s (suc k)) +ℤ (int_at π.reserve k *ℤ reserve_in s (suc k)))
  paid_within k low =
      let o = outputs_within u s (length π.energy) unit h k in
      let same = prices.lengths in
      let r = prices.reserve k (pos 0) (omega (arith, low, same)) in
      let rl = r.at_least in
      let rest = o.reserve in
      sum_within 10000000000000000 100000000000000 _ _
      (signed_product_within 10000000 1000000000 (int_at π.energy k) (supply_in u s (suc k))
      (prices.energy k (pos 0) low) (supply_within u s k o))
      (signed_product_within 10000000 10000000 (int_at π.reserve k) (reserve_in s (suc k))
      (record { at_least = omega (arith, ints, rl); at_most = r.at_most })
      (record { at_least = omega (arith, ints); at_most = rest }))

  revenue_within : IsWithin 1696800000000000000 (revenue u π s)
  revenue_within =
      let long = (lengths_of u s (length π.energy) h).0 in
      let few = prices.horizon.at_most in
      sum_at_most 10100000000000000 168 (length s.on) _ (omega (arith, long, few))
      (λ k low. paid_within k (omega (arith, low, long)))

pub earnings_within : EarningsAreWithin
earnings_within u π s unit prices h =
    let r = revenue_within u π s unit prices h in
    let c = costs_within u s (length π.energy) prices.horizon.at_most unit h in
    let rl = r.at_least in
    let rm = r.at_most in
    let cl = c.at_least in
    let cm = c.at_most in
    record { at_least = omega (arith, ints, rl, cm); at_most = omega (arith, ints, rm, cl) }
