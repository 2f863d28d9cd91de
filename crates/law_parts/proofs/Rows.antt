-- The rows of a run are within the bounds of reading.
use Rattle.law_parts.proofs.Common.{ℕ, ◌≤◌, ℤ, List, map, length, take, get_or, sym, ◌∙◌, subst, arith, ints}
use Rattle.law_parts.proofs.Common.{length-map, length-range_with_len, slice_get-get_or, All, AllZip}
use Rattle.law_parts.proofs.Common.{recursion_from_All, All-map, range_with_len, GivesWithin, OutputsAreWithin}
use Rattle.law_parts.proofs.Common.{UnitsAreWithin, PowerAndReserveTotalsAreWithin, DualValuesAreWithin, AnyUnit}
use Rattle.law_parts.proofs.Common.{PriceLists, Schedule}
use Rattle.law_parts.proofs.Common.{Market, units, IsHorizon, IsMarket, IsUnit, ArePrices, IsTotal, IsWorth, Proposal}
use Rattle.law_parts.proofs.Common.{Fits, IsNextRow, IsRun, total_power, total_reserve, ArePriced, RunPricesAreWithin}
use Rattle.law_parts.proofs.Common.{IsAmount, IsEnergyPrice, IsReservePrice, IsList, IsProposal}
use Rattle.law_parts.proofs.Items.{zip_weaker}

total_fits : (x : ℤ) → IsTotal x → IsAmount x
total_fits x h =
    let low = h.at_least in
    let high = h.at_most in
    record { at_least = omega (arith, ints, low); at_most = omega (arith, ints, high) }

pub worth_fits : (x : ℤ) → IsWorth x → IsAmount x
worth_fits x h =
    let low = h.at_least in
    let high = h.at_most in
    record { at_least = omega (arith, ints, low); at_most = omega (arith, ints, high) }

-- prices over the periods of a case are prices within their limits
pub are_prices : (m : Market) (π : PriceLists) → IsMarket m → ArePriced m π → ArePrices π
are_prices m π within h = record {
  lengths = h.horizon ∙ sym h.reserve_horizon;
  horizon = subst IsHorizon (sym h.horizon) within.horizon;
  energy = h.energy;
  reserve = h.reserve;
}

module _ (unit_in : UnitsAreWithin) (output_in : OutputsAreWithin) (total_in : PowerAndReserveTotalsAreWithin)
    (dual_in : DualValuesAreWithin) (m : Market) (within : IsMarket m) where
  -- what a case's units answer to prices is within their limits
  gives : (π : PriceLists) (schedules : List Schedule) → AllZip (λ u s. Fits u π s) (units m) schedules →
      AllZip (λ u s. (k : ℕ) → GivesWithin u s k) (units m) schedules
  gives π schedules h =
      zip_weaker (λ (u : AnyUnit) (s : Schedule). Fits u π s)
      (λ (u : AnyUnit) (s : Schedule). (k : ℕ) → GivesWithin u s k) IsUnit
      (λ u s ok fits. output_in u s (length π.energy) ok fits.best.feasible)
      (units m) schedules (recursion_from_All IsUnit (units m) (unit_in m within)) h

  totals_fit : (schedules : List Schedule) (total : List AnyUnit → List Schedule → ℕ → ℤ) →
      ((k : ℕ) → IsTotal (total (units m) schedules k)) →
      IsList IsAmount m.periods (map (total (units m) schedules) (range_with_len 0 m.periods))
  totals_fit schedules total fits = record {
    length_is = length-map (range_with_len 0 m.periods) (total (units m) schedules) ∙ length-range_with_len 0 m.periods;
    items = recursion_from_All IsAmount (map (total (units m) schedules) (range_with_len 0 m.periods))
        (All-map IsAmount (total (units m) schedules) (range_with_len 0 m.periods)
        (λ k d lt. total_fits (total (units m) schedules (get_or (range_with_len 0 m.periods) k d))
        (fits (get_or (range_with_len 0 m.periods) k d))));
  }

  -- a proposal within the bounds of reading, with a value that is a dual value
  pub record IsRowIn (row : Proposal) : Type 0 where
    pub proposal : IsProposal m.periods row
    pub worth : IsWorth row.value

  row_fits : (cost : ℤ) (ahead : ℕ) (before : List Proposal) (row : Proposal) → ArePriced m row.prices →
      IsNextRow Fits m cost ahead before row → IsRowIn row
  row_fits cost ahead before row priced next =
      let all = gives row.prices next.schedules next.answers in
      let totals = total_in m next.schedules within all in
      let worth = dual_in m row.prices row.value within (are_prices m row.prices within priced) priced.horizon
      next.value in
      record {
        proposal = record {
          value = worth_fits row.value worth;
          energy = record {
            length_is = priced.horizon;
            items =
                recursion_from_All IsEnergyPrice row.prices.energy priced.energy;
          };
          reserve = record {
            length_is = priced.reserve_horizon;
            items =
                recursion_from_All IsReservePrice row.prices.reserve priced.reserve;
          };
          supplied = subst (IsList IsAmount m.periods) (sym next.totals.supply)
              (totals_fit next.schedules total_power (λ k. (totals k).0));
          reserved = subst (IsList IsAmount m.periods) (sym next.totals.reserve)
              (totals_fit next.schedules total_reserve (λ k. (totals k).1));
        };
        worth = worth;
      }

  pub rows_fit : RunPricesAreWithin → (cost : ℤ) (budget ahead : ℕ) (rows : List Proposal) → 1 ≤ ahead →
      IsRun Fits m cost budget ahead rows → All IsRowIn rows
  rows_fit priced cost budget ahead rows some run k d lt =
      let row : Proposal = get_or rows k d in
      row_fits cost ahead (take k rows) row
      (priced m cost budget ahead rows k row some run (slice_get-get_or rows k d lt)) (run.right.each k d lt)
