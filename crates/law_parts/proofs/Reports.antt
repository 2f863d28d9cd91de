-- A right report is within the bounds of reading.
use Rattle.law_parts.proofs.Common.{◌≡◌, ℕ, ◌+◌, ◌-◌, ◌<◌, ◌≤◌, ℤ, pos, ◌+ℤ◌, ◌-ℤ◌, ◌≤ℤ◌, List, ◌++◌, map, length, sym}
use Rattle.law_parts.proofs.Common.{ap, ◌∙◌, subst, arith, inl, inr, ints, length-map, slice_get_within}
use Rattle.law_parts.proofs.Common.{get_or_from_slice_get, All, AllByRecursion, AllZip, recursion_from_All, IsUtf8}
use Rattle.law_parts.proofs.Common.{MOST_UNITS, MOST_PROPOSALS, MOST_AHEAD, UnitsAreWithin, OutputsAreWithin}
use Rattle.law_parts.proofs.Common.{EarningsAreWithin, PowerAndReserveTotalsAreWithin, PlanCostsAreWithin}
use Rattle.law_parts.proofs.Common.{DualValuesAreWithin}
use Rattle.law_parts.proofs.Common.{NamedThermalUnit, NamedRenewableUnit, NamedBidUnit, Schedule, Market, units}
use Rattle.law_parts.proofs.Common.{thermal_names, renewable_names, bid_names, unit_names, ReserveFrom0}
use Rattle.law_parts.proofs.Common.{PaymentsAreAtLeastZero, IsHorizon, IsSum, IsWorth, Proposal, Fits, IsRun}
use Rattle.law_parts.proofs.Common.{IsFeasible}
use Rattle.law_parts.proofs.Common.{plan_cost, ArePriced, RunPricesAreWithin, IsFlatLine, UnitLine, Report}
use Rattle.law_parts.proofs.Common.{RightReportHasForm, ReportPaymentsMakeUpTheGap, unit_lines, IsRightReport, IsAmount}
use Rattle.law_parts.proofs.Common.{IsProposal, IsThermalLine, IsOtherLine, IsReport, IsPlannedCase, AreAsked}
use Rattle.law_parts.proofs.Items.{front, back, of_map}
use Rattle.law_parts.proofs.Rows.{worth_fits, are_prices, IsRowIn, rows_fit}
use Rattle.law_parts.proofs.Lines.{HasBody, bodies, thermal_lines, other_lines}

sum_fits : (x : ℤ) → IsSum x → IsAmount x
sum_fits x h =
    let low = h.at_least in
    let high = h.at_most in
    record { at_least = omega (arith, ints, low); at_most = omega (arith, ints, high) }

-- a cost less a value, and the payments and the surplus that it is made of, none of them below 0
record MakesUp (cost value payments surplus : ℤ) : Type 0 where
  pub gap : IsAmount (cost -ℤ value)
  pub paid : IsAmount payments
  pub left : IsAmount surplus

makes_up : (cost value payments surplus : ℤ) → IsSum cost → IsWorth value → payments +ℤ surplus ≡ cost -ℤ value →
    pos 0 ≤ℤ payments → pos 0 ≤ℤ surplus → MakesUp cost value payments surplus
makes_up cost value payments surplus h i e a b =
    let c = h.at_least in
    let d = h.at_most in
    let v = i.at_least in
    let w = i.at_most in
    record {
      gap = record { at_least = omega (arith, ints, c, w); at_most = omega (arith, ints, d, v) };
      paid = record { at_least = omega (arith, ints, a); at_most = omega (arith, ints, e, b, d, v) };
      left = record { at_least = omega (arith, ints, b); at_most = omega (arith, ints, e, a, d, v) };
    }

-- a run has a row where its budget is from 1 on
some_row : (m : Market) (cost : ℤ) (budget ahead : ℕ) (rows : List Proposal) → 1 ≤ budget →
    IsRun Fits m cost budget ahead rows → 1 ≤ length rows
some_row m cost budget ahead rows some run =
    elim run.whole [
      | inl full ↦ omega (arith, full, some)
      | inr stop ↦ let inside = stop.2 in omega (arith, inside)
    ]

abbrev name_of : UnitLine → List ℕ
name_of l = l.name

module _ (unit_in : UnitsAreWithin) (output_in : OutputsAreWithin) (earning_in : EarningsAreWithin)
    (total_in : PowerAndReserveTotalsAreWithin) (cost_in : PlanCostsAreWithin) (dual_in : DualValuesAreWithin)
    (nothing : PaymentsAreAtLeastZero) (priced : RunPricesAreWithin) (has_form : RightReportHasForm)
    (gap : ReportPaymentsMakeUpTheGap)
    (m : Market) (plan : List Schedule) (budget ahead : ℕ) (r : Report) (planned : IsPlannedCase m plan)
    (asked : AreAsked budget ahead) (right : IsRightReport m plan budget ahead r) where
  -- ---- the chosen prices

  chosen_priced : ArePriced m right.row.prices
  chosen_priced = priced m (plan_cost m plan) budget ahead r.rows (r.chosen - 1) right.row asked.ahead_at_least
      right.run right.is_chosen

  from_0 : ReserveFrom0 m right.row.prices
  from_0 =
      let long = chosen_priced.reserve_horizon in
      record {
        horizon = chosen_priced.horizon;
        reserve =
            λ k lt. (chosen_priced.reserve k (pos 0) (omega (arith, lt, long))).at_least;
      }

  -- ---- the rows

  rows_in : All (IsRowIn unit_in output_in total_in dual_in m planned.market) r.rows
  rows_in = rows_fit unit_in output_in total_in dual_in m planned.market priced (plan_cost m plan) budget ahead r.rows
      asked.ahead_at_least right.run

  proposals : AllByRecursion (IsProposal r.periods) r.rows
  proposals =
      subst (λ (n : ℕ). AllByRecursion (IsProposal n) r.rows) (sym right.periods_are)
      (recursion_from_All (IsProposal m.periods) r.rows (λ k d lt. (rows_in k d lt).proposal))

  chosen_below : r.chosen - 1 < length r.rows
  chosen_below = slice_get_within r.rows (r.chosen - 1) right.row right.is_chosen

  value_in : IsWorth r.value
  value_in =
      subst IsWorth (ap (λ (p : Proposal). p.value)
      (get_or_from_slice_get r.rows (r.chosen - 1) right.row right.row right.is_chosen) ∙ sym right.value_is)
      (rows_in (r.chosen - 1) right.row chosen_below).worth

  -- ---- the money

  cost_is_sum : IsSum r.cost
  cost_is_sum = subst IsSum (sym right.cost_is) (cost_in m plan planned.market planned.feasible)

  money : MakesUp r.cost r.value r.payments r.surplus
  money =
      let paid = nothing m plan right.row.prices _ _ r.surplus r.payments planned.feasible from_0 right.settled in
      makes_up r.cost r.value r.payments r.surplus cost_is_sum value_in
      (gap m plan budget ahead r planned.feasible right) paid.2 paid.1

  -- ---- the lines

  lines_in : AllByRecursion (HasBody r.periods) (unit_lines r)
  lines_in =
      let feasible = subst (λ (n : ℕ). AllZip (λ u s. IsFeasible u n s) (units m) plan) (sym chosen_priced.horizon)
      planned.feasible.feasible in
      subst (λ (n : ℕ). AllByRecursion (HasBody n) (unit_lines r)) (chosen_priced.horizon ∙ sym right.periods_are)
      (bodies unit_in output_in earning_in m planned.market right.row.prices
      (are_prices m right.row.prices planned.market chosen_priced) (unit_lines r) plan r.surplus r.payments feasible
      right.settled right.responses_fit right.earned)

  named : (ls : List UnitLine) (names : List (List ℕ)) → map name_of ls ≡ names → AllByRecursion IsUtf8 names →
      AllByRecursion (λ (l : UnitLine). IsUtf8 l.name) ls
  named ls names same h = of_map IsUtf8 name_of ls (subst (AllByRecursion IsUtf8) (sym same) h)

  counted : (ls : List UnitLine) (names : List (List ℕ)) → map name_of ls ≡ names → length ls ≡ length names
  counted ls names same = sym (length-map ls name_of) ∙ ap length same

  all_names : AllByRecursion IsUtf8 (unit_names m)
  all_names = recursion_from_All IsUtf8 (unit_names m) planned.names

  thermal_in : AllByRecursion (IsThermalLine r.periods) r.thermal
  thermal_in =
      thermal_lines r.periods r.thermal
      (front (HasBody r.periods) r.thermal r.renewable
      (front (HasBody r.periods) (r.thermal ++ r.renewable) r.bids lines_in))
      (named r.thermal (thermal_names m) right.names.thermal
      (front IsUtf8 (thermal_names m) (renewable_names m)
      (front IsUtf8 (thermal_names m ++ renewable_names m) (bid_names m) all_names)))

  renewable_in : AllByRecursion (IsOtherLine r.periods) r.renewable
  renewable_in =
      other_lines r.periods r.renewable
      (back (HasBody r.periods) r.thermal r.renewable
      (front (HasBody r.periods) (r.thermal ++ r.renewable) r.bids lines_in))
      (named r.renewable (renewable_names m) right.names.renewable
      (back IsUtf8 (thermal_names m) (renewable_names m)
      (front IsUtf8 (thermal_names m ++ renewable_names m) (bid_names m) all_names)))
      (recursion_from_All IsFlatLine r.renewable (has_form m plan budget ahead r right).renewable)

  bids_in : AllByRecursion (IsOtherLine r.periods) r.bids
  bids_in =
      other_lines r.periods r.bids (back (HasBody r.periods) (r.thermal ++ r.renewable) r.bids lines_in)
      (named r.bids (bid_names m) right.names.bids
      (back IsUtf8 (thermal_names m ++ renewable_names m) (bid_names m) all_names))
      (recursion_from_All IsFlatLine r.bids (has_form m plan budget ahead r right).bids)

  -- ---- how many units there are

  record CountsUnits : Type 0 where
    pub at_least : 1 ≤ r.units
    pub at_most : r.units ≤ MOST_UNITS
    pub lines : length r.thermal + (length r.renewable + length r.bids) ≡ r.units

  counts : CountsUnits
  counts =
      let all : r.units ≡ length m.thermal + length m.flat + length m.bids = right.units_are in
      let some = planned.market.some_unit in
      let a = planned.market.thermal_count in
      let b = planned.market.flat_count in
      let c = planned.market.bid_count in
      let thermal = counted r.thermal (thermal_names m) right.names.thermal ∙
      length-map m.thermal (λ (n : NamedThermalUnit). n.name) in
      let flat = counted r.renewable (renewable_names m) right.names.renewable ∙
      length-map m.flat (λ (n : NamedRenewableUnit). n.name) in
      let bids = counted r.bids (bid_names m) right.names.bids ∙ length-map m.bids (λ (n : NamedBidUnit). n.name) in
      record {
        at_least = omega (arith, all, some);
        at_most = omega (arith, all, a, b, c);
        lines = omega (arith, all, thermal, flat, bids);
      }

  -- ---- all of it

  pub in_form : IsReport r
  in_form =
      let within = right.run.within in
      let most = asked.budget_at_most in
      let below = chosen_below in
      record {
        periods = subst IsHorizon (sym right.periods_are) planned.market.horizon;
        units_at_least = counts.at_least;
        units_at_most = counts.at_most;
        budget_at_least = subst (λ (n : ℕ). 1 ≤ n) (sym right.budget_is) asked.budget_at_least;
        budget_at_most = subst (λ (n : ℕ). n ≤ MOST_PROPOSALS) (sym right.budget_is) most;
        ahead_at_least = subst (λ (n : ℕ). 1 ≤ n) (sym right.ahead_is) asked.ahead_at_least;
        ahead_at_most = subst (λ (n : ℕ). n ≤ MOST_AHEAD) (sym right.ahead_is) asked.ahead_at_most;
        cost = sum_fits r.cost cost_is_sum;
        rows_at_least = some_row m (plan_cost m plan) budget ahead r.rows asked.budget_at_least right.run;
        rows_at_most = omega (arith, within, most);
        rows = proposals;
        chosen = omega (arith, below, within, most);
        value = worth_fits r.value value_in;
        lines = counts.lines;
        thermal = thermal_in;
        renewable = renewable_in;
        bids = bids_in;
        surplus = money.left;
        payments = money.paid;
        gap = subst IsAmount (sym right.gap_is) money.gap;
      }
