-- The rows of a run are answered, and their prices are within the limits.
use Rattle.law_parts.proofs.Common.{◌≡◌, ℕ, suc, ◌+◌, ◌-◌, ◌<◌, ◌≤◌, Bool, true, false, cond, Option, ℤ, pos, neg_ℤ}
use Rattle.law_parts.proofs.Common.{◌+ℤ◌, ◌-ℤ◌, ◌*ℤ◌, ◌≤ℤ◌, List, [], ◌∷◌, length, take, get_or, refl, sym, ◌∙◌, subst}
use Rattle.law_parts.proofs.Common.{arith, nat_tests, ints, length-map, length-replicate, length-take, All-map}
use Rattle.law_parts.proofs.Common.{All-replicate, length-range_with_len, slice_get_within, slice_get-get_or, All}
use Rattle.law_parts.proofs.Common.{range_with_len, option_map_or, nat_le, PriceLists, Market, IsFrom, price_limit}
use Rattle.law_parts.proofs.Common.{Proposal, start_price, start_prices, opening_prices_of, stepped_prices, move_of}
use Rattle.law_parts.proofs.Common.{squared_length, energy_direction, reserve_direction, age, no_prices, next_prices}
use Rattle.law_parts.proofs.Common.{price_rule, Fits, IsNextRow, int_at, floor_div, clamped, IsDualValue, clamped_from}
use Rattle.law_parts.proofs.Common.{IsAnswered, ArePriced, IsInBox, RunBoundsHold, RunPricesAreWithin}
use Rattle.law_parts.proofs.BestLaws.{best_holds}
use Rattle.law_parts.proofs.Box.{priced_in_box}
use Rattle.gap_proof.proofs.RowLists.{item_of, row_prices}

-- ---- the prices of the rule

start_length : (m : Market) → length (start_prices m) ≡ m.periods
start_length m = length-map (range_with_len 0 m.periods) (start_price m) ∙ length-range_with_len 0 m.periods

opening_priced : (m : Market) (n : ℕ) → ArePriced m (opening_prices_of (start_prices m) n)
opening_priced m n = record {
  horizon = length-map (start_prices m)
      (λ (s : ℤ). clamped (neg_ℤ price_limit) price_limit (floor_div (s *ℤ pos (7 + n)) 8)) ∙ start_length m;
  reserve_horizon = length-replicate (length (start_prices m)) (pos 0) ∙ start_length m;
  energy = All-map (IsFrom (neg_ℤ price_limit) price_limit)
      (λ (s : ℤ). clamped (neg_ℤ price_limit) price_limit (floor_div (s *ℤ pos (7 + n)) 8)) (start_prices m)
      (λ k d i. clamped_from (neg_ℤ price_limit) price_limit (floor_div (get_or (start_prices m) k d *ℤ pos (7 + n)) 8)
      (omega (arith, ints)));
  reserve = All-replicate (IsFrom (pos 0) price_limit) (length (start_prices m)) (pos 0)
      (record { at_least = omega (arith, ints); at_most = omega (arith, ints) });
}

-- where a step leads before it is kept within its limits
abbrev moved_energy : Market → ℤ → ℕ → Proposal → ℕ → ℤ
moved_energy m cost k r j = int_at r.prices.energy j +ℤ move_of (cost -ℤ r.value) (squared_length m r) k
    (energy_direction m r j)

abbrev moved_reserve : Market → ℤ → ℕ → Proposal → ℕ → ℤ
moved_reserve m cost k r j =
    int_at r.prices.reserve j +ℤ move_of (cost -ℤ r.value) (squared_length m r) k (reserve_direction m r j)

stepped_priced : (m : Market) (cost : ℤ) (k : ℕ) (r : Proposal) → ArePriced m (stepped_prices m cost k r)
stepped_priced m cost k r =
    let places : List ℕ = range_with_len 0 m.periods in
    record {
      horizon = length-map places (λ (j : ℕ). clamped (neg_ℤ price_limit) price_limit (moved_energy m cost k r j)) ∙
          length-range_with_len 0 m.periods;
      reserve_horizon = length-map places (λ (j : ℕ). clamped (pos 0) price_limit (moved_reserve m cost k r j)) ∙
          length-range_with_len 0 m.periods;
      energy = All-map (IsFrom (neg_ℤ price_limit) price_limit)
          (λ (j : ℕ). clamped (neg_ℤ price_limit) price_limit (moved_energy m cost k r j)) places
          (λ j d i. clamped_from (neg_ℤ price_limit) price_limit (moved_energy m cost k r (get_or places j d))
          (omega (arith, ints)));
      reserve = All-map (IsFrom (pos 0) price_limit)
          (λ (j : ℕ). clamped (pos 0) price_limit (moved_reserve m cost k r j)) places
          (λ j d i. clamped_from (pos 0) price_limit (moved_reserve m cost k r (get_or places j d))
          (omega (arith, ints)));
    }

next_priced : (m : Market) (cost : ℤ) (rows : List Proposal) → 0 < length rows → ArePriced m (next_prices m cost rows)
next_priced m cost [] some = absurd (omega (arith, some))
next_priced m cost (r ∷ rows) some =
    let last = slice_get-get_or (r ∷ rows) (length (r ∷ rows) - 1) r (omega arith) in
    subst (λ (o : Option Proposal). ArePriced m (option_map_or (stepped_prices m cost (age (r ∷ rows))) o no_prices))
    (sym last)
    (stepped_priced m cost (age (r ∷ rows)) (get_or (r ∷ rows) (length (r ∷ rows) - 1) r))

above : (n k : ℕ) → nat_le n k ≡ false → k < n
above n k h = grind (arith, nat_tests)

rule_priced : (m : Market) (cost : ℤ) (ahead n : ℕ) (rows : List Proposal) → (ahead < n → 0 < length rows) →
    ArePriced m (price_rule m cost ahead rows n)
rule_priced m cost ahead n rows some = choose (nat_le n ahead) refl
  where
    choose : (t : Bool) → nat_le n ahead ≡ t →
        ArePriced m (cond t (opening_prices_of (start_prices m) n) (next_prices m cost rows))
    choose true is = opening_priced m n
    choose false is = next_priced m cost rows (some (above n ahead is))

-- ---- the rows

next_row_priced : (m : Market) (cost : ℤ) (ahead : ℕ) (before : List Proposal) (r : Proposal) → 1 ≤ ahead →
    IsNextRow Fits m cost ahead before r → ArePriced m r.prices
next_row_priced m cost ahead before r some h =
    let rest : List Proposal = take (suc (length before) - ahead) before in
    let few = length-take (suc (length before) - ahead) before in
    subst (ArePriced m) (sym h.prices)
    (rule_priced m cost ahead (suc (length before)) rest (λ past. omega (arith, past, few, some)))

next_row_answered : (m : Market) (cost : ℤ) (ahead : ℕ) (before : List Proposal) (r : Proposal) → 1 ≤ ahead →
    IsNextRow Fits m cost ahead before r → IsAnswered m r
next_row_answered m cost ahead before r some h = record {
  horizon = (next_row_priced m cost ahead before r some h).horizon;
  value = h.value;
  schedules = h.schedules;
  answers = h.answers;
  totals = h.totals;
}

pub run_prices_within : RunPricesAreWithin
run_prices_within m cost budget ahead rows k row some run at =
    let within = slice_get_within rows k row at in
    let priced : All (λ (r : Proposal). ArePriced m r.prices) rows =
    λ j d lt. next_row_priced m cost ahead (take j rows) (get_or rows j d) some (run.right.each j d lt) in
    item_of (λ (r : Proposal). ArePriced m r.prices) rows k row priced within at

pub run_bounds_hold : RunBoundsHold
run_bounds_hold m cost budget ahead rows centre row radius range bound some wide run low at best =
    let answered : All (IsAnswered m) rows =
    λ k d lt. next_row_answered m cost ahead (take k rows) (get_or rows k d) some (run.right.each k d lt) in
    let within = slice_get_within rows (centre - 1) row at in
    let priced : All (λ (r : Proposal). ArePriced m r.prices) rows =
    λ k d lt. next_row_priced m cost ahead (take k rows) (get_or rows k d) some (run.right.each k d lt) in
    let answer = item_of (IsAnswered m) rows (centre - 1) row answered within at in
    let round : (π : PriceLists) (value : ℤ) → IsInBox m row.prices radius π → IsDualValue m π value → value ≤ℤ bound =
    λ π value box dual. best_holds m rows centre radius range bound π value answered low (omega (arith, low, within))
    best
    (subst (λ (ρ : PriceLists). IsInBox m ρ radius π) (row_prices rows centre row at) box) dual in
    record {
      reached = round row.prices row.value
          (priced_in_box m row.prices radius
          (item_of (λ (r : Proposal). ArePriced m r.prices) rows (centre - 1) row priced within at) wide) answer.value;
      holds = round;
    }
