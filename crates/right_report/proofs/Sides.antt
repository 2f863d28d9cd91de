-- The sides of `hull fixed`: what a record chose, that it is right, and that at most one is.
use Rattle.right_report.proofs.Common.{◌≡◌, ℕ, ◌-◌, ◌<◌, ◌≤◌, ℤ, pos, ◌-ℤ◌, List, map, length, get_or, slice_get, Some}
use Rattle.right_report.proofs.Common.{refl, sym, ap, ◌∙◌, subst, arith, length-map, get_or-map, same_Some}
use Rattle.right_report.proofs.Common.{slice_get-map, slice_get-get_or, slice_get_within, get_or_from_slice_get}
use Rattle.right_report.proofs.Common.{option_map, IsSetup, Content, IsLegalHistory, RowsOfHistoryAreWithinLimits}
use Rattle.right_report.proofs.Common.{own_rows}
use Rattle.right_report.proofs.Common.{FinishedHistoryIsWholeRun, PriceLists, OneLeast, PaymentsMakeUpTheGap}
use Rattle.right_report.proofs.Common.{proposal_of, Proposal}
use Rattle.right_report.proofs.Common.{chosen_number, IsRun, Fits, total, plan_cost, worth_of_demand, IsDualValue}
use Rattle.right_report.proofs.Common.{IsSettled, Row, chosen_of, value_of}
use Rattle.right_report.specs.RightSide.{OneRightSide, PaymentsOfFixedReportSideMakeUpTheGap}
use Rattle.right_report.specs.RightSide.{SettledSidesOfFixedReportAreRight}
use Rattle.right_report.proofs.OneReport.{settled_same}
use Rattle.right_report.proofs.OneRun.{one_run}

-- ---- the chosen row

-- the row that a slice has at its place
chosen_at : (c : Content) (rows : List Row) (chosen : ℕ) (row : Row) → map proposal_of rows ≡ own_rows c →
    chosen ≡ chosen_of c → chosen - 1 < length rows → row ≡ get_or rows (chosen - 1) row →
    slice_get (own_rows c) (chosen_of c - 1) ≡ Some (proposal_of row)
chosen_at c rows chosen row same at inside is =
    ap (λ (n : ℕ). slice_get (own_rows c) (n - 1)) (sym at) ∙
    ap (λ (xs : List Proposal). slice_get xs (chosen - 1)) (sym same) ∙ slice_get-map proposal_of rows (chosen - 1)
    ∙ ap (option_map proposal_of) (slice_get-get_or rows (chosen - 1) row inside) ∙
    ap (λ (r : Row). Some (proposal_of r)) (sym is)

-- its value
chosen_value : (c : Content) (row : Proposal) → slice_get (own_rows c) (chosen_of c - 1) ≡ Some row →
    value_of c ≡ row.value
chosen_value c row is =
    let k = chosen_of c - 1 in
    get_or-map (λ (r : Proposal). r.value) (own_rows c) k row (pos 0) (slice_get_within (own_rows c) k row is)
    ∙ ap (λ (r : Proposal). r.value) (get_or_from_slice_get (own_rows c) k row row is)

-- its prices are over the periods of the case
chosen_is_long : RowsOfHistoryAreWithinLimits → (c : Content) (row : Proposal) → IsSetup c.setup → IsLegalHistory
    c.setup c.events →
    slice_get (own_rows c) (chosen_of c - 1) ≡ Some row →
    length row.prices.energy ≡ c.setup.market.periods
chosen_is_long within c row setup legal is =
    let k = chosen_of c - 1 in
    let inside = slice_get_within (own_rows c) k row is in
    let long = (within c.setup c.events setup.market setup.some_ahead legal k row inside).horizon in
    sym (ap (λ (r : Proposal). length r.prices.energy) (get_or_from_slice_get (own_rows c) k row row is)) ∙ long

-- what is read at the place of the chosen number
pub record IsChosenAt (c : Content) (row : Row) : Type 0 where
  pub is_chosen : slice_get (own_rows c) (chosen_of c - 1) ≡ Some (proposal_of row)
  pub value : value_of c ≡ row.value
  pub horizon : length row.prices.energy.items ≡ c.setup.market.periods

pub chosen_row_at : RowsOfHistoryAreWithinLimits → (c : Content) (rows : List Row) (chosen : ℕ) (row : Row) → IsSetup
    c.setup →
    IsLegalHistory c.setup c.events → map proposal_of rows ≡ own_rows c → chosen ≡ chosen_of c →
    1 ≤ chosen → chosen ≤ length (own_rows c) → row ≡ get_or rows (chosen - 1) row → IsChosenAt c row
chosen_row_at within c rows chosen row setup legal same at first last is =
    let long = ap length same in
    let there = chosen_at c rows chosen row same at (omega (arith, first, last, long, length-map rows proposal_of))
    is in
    record {
      is_chosen = there;
      value = chosen_value c (proposal_of row) there;
      horizon = chosen_is_long within c (proposal_of row) setup legal there;
    }

-- ---- right sides

pub sides_are_right : FinishedHistoryIsWholeRun Fits → SettledSidesOfFixedReportAreRight
sides_are_right finished_run given c s setup legal finished choice settled =
    let some = setup.market.some_unit in
    let run = finished_run c.setup c.events setup.some_ahead (omega (arith, some)) legal finished in
    record {
      rows = own_rows c;
      run = subst (λ (cost : ℤ). IsRun Fits c.setup.market cost c.setup.budget c.setup.ahead (own_rows c)) setup.cost
          run;
      proposals_are = choice.proposals;
      chosen_is = choice.chosen;
      row = choice.row;
      is_chosen = subst (λ (n : ℕ). slice_get (own_rows c) (n - 1) ≡ Some choice.row) (sym choice.chosen)
          choice.is_chosen;
      value_is = choice.value;
      prices_are = choice.prices;
      scheduled = s.settlement.scheduled.items;
      settled = settled;
    }

pub one_side : OneLeast → OneRightSide
one_side one_least given ran plan budget ahead s other h i =
    let rows = one_run one_least ran (plan_cost ran plan) budget ahead h.rows i.rows h.run i.run in
    let chosen : s.chosen ≡ other.chosen = h.chosen_is ∙ ap chosen_number rows ∙ sym i.chosen_is in
    let row : h.row ≡ i.row =
    same_Some h.row i.row (sym h.is_chosen ∙ (λ j. slice_get (rows j) (chosen j - 1)) ∙ i.is_chosen) in
    let prices : s.prices ≡ other.prices = h.prices_are ∙ ap (λ (p : Proposal). p.prices) row ∙ sym i.prices_are in
    let settled = subst (λ (π : PriceLists). IsSettled given plan π h.scheduled s.payments s.surplus s.total) prices
    h.settled in
    let money = settled_same given plan other.prices h.scheduled s.payments i.scheduled other.payments s.surplus s.total
    other.surplus other.total settled i.settled in
    λ j. record {
      proposals = (h.proposals_are ∙ ap (length {A = Proposal}) rows ∙ sym i.proposals_are) j;
      chosen = chosen j;
      value = (h.value_is ∙ ap (λ (p : Proposal). p.value) row ∙ sym i.value_is) j;
      prices = prices j;
      payments = money.payments_same j;
      surplus = money.surplus_same j;
      total = money.sum_same j;
    }

pub made_up : PaymentsMakeUpTheGap → PaymentsOfFixedReportSideMakeUpTheGap
made_up law given ran plan budget ahead s feasible h =
    let dual : ℤ = worth_of_demand given s.prices -ℤ total h.settled.tops in
    let is : IsDualValue given s.prices dual = record { tops = h.settled.tops; best = h.settled.best; is = refl } in
    (dual, is, law given plan s.prices dual h.scheduled s.payments s.surplus s.total feasible is h.settled)
