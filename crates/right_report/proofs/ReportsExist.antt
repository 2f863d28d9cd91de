-- The report of a run.
use Rattle.std.proofs.Common.{◌≡◌, ℕ, ◌-◌, ◌≤◌, inl, inr, ℤ, pos, ◌-ℤ◌, Some, List, [], ◌++◌, map, take, drop, length}
use Rattle.std.proofs.Common.{get_or, slice_get, refl, sym, ap, ◌∙◌, subst, arith, length-append, append_assoc}
use Rattle.std.proofs.lemmas.List.{length-map, take_at, drop_at, take-map, drop-map, take-append-drop}
use Rattle.std.proofs.lemmas.Option.{slice_get-get_or}
use Rattle.std.specs.List.{AllZip}
use Rattle.uc_model.specs.Data.{AnyUnit, NamedThermalUnit, NamedRenewableUnit, NamedBidUnit, Schedule, Market, units}
use Rattle.uc_model.specs.Data.{unit_count, thermal_names, renewable_names, bid_names}
use Rattle.uc_model.specs.Earnings.{IsTop}
use Rattle.uc_model.specs.PriceRule.{Proposal, no_prices, chosen_number}
use Rattle.uc_model.specs.Runs.{Fits, HasTotals, IsRun}
use Rattle.uc_model.specs.Schedules.{IsFeasible}
use Rattle.plain_lists.specs.Sums.{total}
use Rattle.uc_model.specs.Systems.{plan_cost, surplus_value, IsSettled}
use Rattle.plain_lists.proofs.ListLaws.{length_same}
use Rattle.right_report.specs.Laws.{OneIsChosen}
use Rattle.report_form.specs.ReportText.{UnitLine, Report}
use Rattle.right_report.specs.RightReport.{IsRightReport}
use Rattle.right_report.specs.Existence.{RunsExist, RightReportsExist}
use Rattle.right_report.proofs.UnitLines.{units_length}
use Rattle.right_report.proofs.LinesExist.{AreLines, lines_exist, name_in, scheduled_in, payment_in, response_in}
use Rattle.right_report.proofs.LinesExist.{earned_in}

-- ---- names

abbrev all_names : Market → List (List ℕ)
all_names m = thermal_names m ++ (renewable_names m ++ bid_names m)

thermal_count : (m : Market) → length (thermal_names m) ≡ length m.thermal
thermal_count m = length-map m.thermal (λ (n : NamedThermalUnit). n.name)

renewable_count : (m : Market) → length (renewable_names m) ≡ length m.flat
renewable_count m = length-map m.flat (λ (n : NamedRenewableUnit). n.name)

names_length : (m : Market) → length (all_names m) ≡ length (units m)
names_length m =
    let a = thermal_count m in
    let b = renewable_count m in
    let c = length-map m.bids (λ (n : NamedBidUnit). n.name) in
    omega (
      arith,
      a,
      b,
      c,
      units_length m,
      length-append (thermal_names m) (renewable_names m ++ bid_names m),
      length-append (renewable_names m) (bid_names m),
    )

-- ---- the lines of each kind

module _ (m : Market) (ls : List UnitLine) where
  abbrev thermal_lines : List UnitLine
  thermal_lines = take (length m.thermal) ls

  abbrev other_lines : List UnitLine
  other_lines = drop (length m.thermal) ls

  abbrev renewable_lines : List UnitLine
  renewable_lines = take (length m.flat) other_lines

  abbrev bid_lines : List UnitLine
  bid_lines = drop (length m.flat) other_lines

  all_lines : thermal_lines ++ renewable_lines ++ bid_lines ≡ ls
  all_lines =
      append_assoc thermal_lines renewable_lines bid_lines
      ∙ (ap (λ (rest : List UnitLine). thermal_lines ++ rest) (take-append-drop (length m.flat) other_lines) ∙
      take-append-drop (length m.thermal) ls)

  module _ (are : map name_in ls ≡ all_names m) where
    other_names : map name_in other_lines ≡ renewable_names m ++ bid_names m
    other_names =
        sym (drop-map name_in (length m.thermal) ls)
        ∙ (ap (drop (length m.thermal)) are ∙
        drop_at (thermal_names m) (renewable_names m ++ bid_names m) (length m.thermal) (thermal_count m))

    thermal_named : map name_in thermal_lines ≡ thermal_names m
    thermal_named =
        sym (take-map name_in (length m.thermal) ls)
        ∙ (ap (take (length m.thermal)) are ∙
        take_at (thermal_names m) (renewable_names m ++ bid_names m) (length m.thermal) (thermal_count m))

    renewable_named : map name_in renewable_lines ≡ renewable_names m
    renewable_named =
        sym (take-map name_in (length m.flat) other_lines)
        ∙ (ap (take (length m.flat)) other_names ∙
        take_at (renewable_names m) (bid_names m) (length m.flat) (renewable_count m))

    bids_named : map name_in bid_lines ≡ bid_names m
    bids_named =
        sym (drop-map name_in (length m.flat) other_lines)
        ∙ (ap (drop (length m.flat)) other_names ∙
        drop_at (renewable_names m) (bid_names m) (length m.flat) (renewable_count m))

-- ---- the report

report_made : (m : Market) (plan : List Schedule) (budget ahead : ℕ) (rows : List Proposal) (row : Proposal)
    (ls : List UnitLine) → Report
report_made m plan budget ahead rows row ls = record {
  periods = m.periods;
  units = unit_count m;
  budget = budget;
  ahead = ahead;
  cost = plan_cost m plan;
  rows = rows;
  chosen = chosen_number rows;
  value = row.value;
  thermal = thermal_lines m ls;
  renewable = renewable_lines m ls;
  bids = bid_lines m ls;
  surplus = surplus_value m plan row.prices;
  payments = total (map payment_in ls);
  gap = plan_cost m plan -ℤ row.value;
}

-- what is said of all lines
record AreRightLines (m : Market) (plan : List Schedule) (row : Proposal) (ls : List UnitLine) : Type 0 where
  fit : AllZip (λ (u : AnyUnit) (l : UnitLine). Fits u row.prices l.response) (units m) ls
  totals : HasTotals m (map response_in ls) row
  earned : AllZip (λ (u : AnyUnit) (l : UnitLine). IsTop u row.prices l.earned) (units m) ls

right_lines : (m : Market) (plan responses : List Schedule) (row : Proposal) (ls : List UnitLine) →
    HasTotals m responses row
    → AreLines row.prices (units m) plan responses (all_names m) ls → AreRightLines m plan row ls
right_lines m plan responses row ls totals h = record {
  fit = h.fit;
  totals = subst (λ (ss : List Schedule). HasTotals m ss row) (sym h.responses_are) totals;
  earned = h.tops;
}

settled : (m : Market) (plan responses : List Schedule) (row : Proposal) (ls : List UnitLine) →
    AreLines row.prices (units m) plan responses (all_names m) ls
    → IsSettled m plan row.prices (map scheduled_in ls) (map payment_in ls) (surplus_value m plan row.prices)
    (total (map payment_in ls))
settled m plan responses row ls h = record {
  tops = map earned_in ls;
  best = h.earned;
  scheduled_is = h.scheduled;
  payments_are = h.payments;
  surplus_is = refl;
  sum_is = refl;
}

module _ (m : Market) (plan : List Schedule) (budget ahead : ℕ) (rows : List Proposal)
    (run : IsRun Fits m (plan_cost m plan) budget ahead rows)
    (row : Proposal) (chosen : slice_get rows (chosen_number rows - 1) ≡ Some row)
    (responses : List Schedule) (totals : HasTotals m responses row)
    (ls : List UnitLine) (lines : AreLines row.prices (units m) plan responses (all_names m) ls) where
  report_is_right : IsRightReport m plan budget ahead (report_made m plan budget ahead rows row ls)
  unfolding report_made
  report_is_right =
      let all = sym (all_lines m ls) in
      let right = subst (AreRightLines m plan row) all (right_lines m plan responses row ls totals lines) in
      record {
        periods_are = refl;
        units_are = refl;
        budget_is = refl;
        ahead_is = refl;
        cost_is = refl;
        run = run;
        chosen_is = refl;
        row = row;
        is_chosen = chosen;
        value_is = refl;
        names = record {
          thermal = thermal_named m ls lines.names_are;
          renewable = renewable_named m ls lines.names_are;
          bids = bids_named m ls lines.names_are;
        };
        responses_fit = right.fit;
        totals = right.totals;
        earned = right.earned;
        settled =
            subst (λ (all_of : List UnitLine). IsSettled m plan row.prices (map scheduled_in all_of)
            (map payment_in all_of) (surplus_value m plan row.prices) (total (map payment_in ls))) all
            (settled m plan responses row ls lines);
        gap_is = refl;
      }

-- ---- it exists

some_row : (m : Market) (cost : ℤ) (budget ahead : ℕ) (rows : List Proposal) → 1 ≤ budget →
    IsRun Fits m cost budget ahead rows → 1 ≤ length rows
some_row m cost budget ahead rows some run = elim run.whole [
  | inl long ↦ omega (arith, some, long)
  | inr last ↦ let inside = last.2 in omega (arith, inside)
]

no_row : Proposal
no_row = record { prices = no_prices; value = pos 0; supply = []; reserve = [] }

pub right_reports_exist : RunsExist → OneIsChosen → RightReportsExist
right_reports_exist runs one m plan budget ahead feasible some_budget some_ahead =
    let run = runs m (plan_cost m plan) budget ahead plan some_ahead feasible.feasible in
    let rows = run.0 in
    let top = one rows (some_row m (plan_cost m plan) budget ahead rows some_budget run.1) in
    let index : chosen_number rows - 1 ≡ top.0 = let is = top.2 in omega (arith, is) in
    let row = get_or rows top.0 no_row in
    let chosen : slice_get rows (chosen_number rows - 1) ≡ Some row =
    ap (slice_get rows) index ∙ slice_get-get_or rows top.0 no_row top.1 in
    let next = run.1.right.each top.0 no_row top.1 in
    let plans = length_same (λ (u : AnyUnit) (s : Schedule). IsFeasible u m.periods s) (units m) plan
    feasible.feasible in
    let lines = lines_exist row.prices (units m) plan next.schedules (all_names m) (sym plans) (names_length m)
    next.answers in (
      report_made m plan budget ahead rows row lines.0,
      report_is_right m plan budget ahead rows run.1 row chosen next.schedules next.totals lines.0 lines.1,
    )
