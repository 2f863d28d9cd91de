-- The chosen row of a finished record: its number, and a value that a report can tell.
use Rattle.right_report.proofs.Common.{to_z, of_z, ◌≡◌, ℕ, ◌-◌, ◌<◌, ◌≤◌, ℤ, pos, ◌-ℤ◌, true, List, [], map, length}
use Rattle.right_report.proofs.Common.{get_or, refl, sym, ap, ◌∙◌, subst, arith, ints, to_z-of_z, length-map}
use Rattle.right_report.proofs.Common.{get_or-map, w128, FitsSigned, IsSetup, Content, IsLegalHistory, own_rows}
use Rattle.right_report.proofs.Common.{has_finished, RowsOfHistoryAreWithinLimits, IsRowWithin, FinishedHasRow}
use Rattle.right_report.proofs.Common.{FinishedHistoryIsWholeRun, Fits}
use Rattle.right_report.proofs.Common.{Row, proposal_of, Proposal, int_at, chosen_of, value_of, no_prices, IsTold}
use Rattle.uc_model.specs.BoundLaws.{PlanCostsAreWithin}
use Rattle.plain_lists.proofs.SignedLaws.{IsWithin, fits_within}
use Rattle.right_report.proofs.Records.{chosen_is}

-- ---- the chosen row

pub most_rows : FinishedHistoryIsWholeRun Fits → (c : Content) → IsSetup c.setup → IsLegalHistory c.setup c.events →
    has_finished c ≡ true → length (own_rows c) ≤ 10000
most_rows run c setup legal finished =
    let some = setup.market.some_unit in
    let within = (run c.setup c.events setup.some_ahead (omega (arith, some)) legal finished).within in
    omega (arith, within, setup.budget)

pub record IsChosen (c : Content) : Type 0 where
  pub some : 1 ≤ length (own_rows c)
  pub first : 1 ≤ chosen_of c
  pub last : chosen_of c ≤ length (own_rows c)

pub chosen_in : FinishedHasRow → (c : Content) → 1 ≤ c.setup.budget → 1 ≤ c.setup.ahead → has_finished c ≡ true →
    IsChosen c
chosen_in has_row c budget ahead finished =
    let some = has_row c ahead budget finished in
    let index = chosen_is (own_rows c) some in
    let inside = index.1 in
    let at = index.2 in
    record { some = some; first = omega (arith, at); last = omega (arith, at, inside) }

row_value : (rows : List Row) (own : List Proposal) (k : ℕ) (row : Row) → map proposal_of rows ≡ own → k < length rows →
    row ≡ get_or rows k row → get_or own k (proposal_of row) ≡ proposal_of row
row_value rows own k row e h is = ap (λ (rs : List Proposal). get_or rs k (proposal_of row)) (sym e) ∙
    get_or-map proposal_of rows k row (proposal_of row) h ∙ ap proposal_of (sym is)

pub value_is : (c : Content) (rows : List Row) (k : ℕ) (row : Row) → map proposal_of rows ≡ own_rows c →
    k < length rows → row ≡ get_or rows k row → k ≡ chosen_of c - 1 → row.value ≡ value_of c
value_is c rows k row e h is at =
    let long = ap length e in
    let count = length-map rows proposal_of in
    let there : get_or (map (λ (r : Proposal). r.value) (own_rows c)) k
    (pos 0) ≡ (get_or (own_rows c) k (proposal_of row)).value =
    get_or-map (λ (r : Proposal). r.value) (own_rows c) k (proposal_of row) (pos 0) (omega (arith, long, count, h)) in
    sym (ap (λ (n : ℕ). int_at (map (λ (r : Proposal). r.value) (own_rows c)) n) (sym at) ∙ there ∙
    ap (λ (r : Proposal). r.value) (row_value rows (own_rows c) k row e h is))

-- the value of the chosen row, and the cost above it, are far from the limits of 128 bits
pub record IsChosenRow (c : Content) (row : Row) : Type 0 where
  pub value_is : row.value ≡ value_of c
  pub value_fits : FitsSigned w128 row.value
  pub gap_fits : FitsSigned w128 (c.setup.cost -ℤ row.value)

pub chosen_row : FinishedHasRow → RowsOfHistoryAreWithinLimits → PlanCostsAreWithin → (c : Content) (rows : List Row)
    (row : Row) →
    IsSetup c.setup → IsLegalHistory c.setup c.events → has_finished c ≡ true → map proposal_of rows ≡ own_rows c →
    row ≡ get_or rows (chosen_of c - 1) row → IsChosenRow c row
chosen_row has_row rows_within costs_within c rows row setup legal finished e is =
    let k = chosen_of c - 1 in
    let long = ap length e in
    let count = length-map rows proposal_of in
    let one = chosen_in has_row c setup.some_budget setup.some_ahead finished in
    let first = one.first in
    let last = one.last in
    let inside : k < length rows = omega (arith, long, count, first, last) in
    let within = rows_within c.setup c.events setup.market setup.some_ahead legal k (proposal_of row)
    (omega (arith, long, count, inside)) in
    let value = (subst (IsRowWithin c.setup.market) (row_value rows (own_rows c) k row e inside is) within).value in
    let costs = subst (IsWithin 100000000000000000000000) (sym setup.cost)
    (costs_within c.setup.market c.setup.plan setup.market setup.feasible) in
    let a = costs.at_least in
    let b = costs.at_most in
    let d = value.at_least in
    let f = value.at_most in
    record {
      value_is = value_is c rows k row e inside is refl;
      value_fits = fits_within w128 1000000000000000000000000 row.value value (omega arith);
      gap_fits = fits_within w128 2000000000000000000000000 (c.setup.cost -ℤ row.value)
          (record { at_least = omega (arith, ints, a, f); at_most = omega (arith, ints, b, d) }) (omega arith);
    }

-- the same of what the program reads of it
pub record IsChoiceTold (c : Content) (cost : ℤ) (row : Row) : Type 0 where
  pub value : to_z w128 (of_z w128 row.value) ≡ value_of c
  pub gap_fits : FitsSigned w128 (to_z w128 (of_z w128 cost) -ℤ to_z w128 (of_z w128 row.value))
  pub gap : to_z w128 (of_z w128 (to_z w128 (of_z w128 cost) -ℤ to_z w128 (of_z w128 row.value))) ≡ c.setup.cost
      -ℤ value_of c

pub choice_told : FinishedHasRow → RowsOfHistoryAreWithinLimits → PlanCostsAreWithin →
    (c : Content) (rows : List Row) (row : Row) (chosen : ℕ) (cost : ℤ) → IsSetup c.setup →
    IsLegalHistory c.setup c.events → has_finished c ≡ true → map proposal_of rows ≡ own_rows c →
    chosen ≡ chosen_of c → row ≡ get_or rows (chosen - 1) row → cost ≡ c.setup.cost → FitsSigned w128 cost →
    IsChoiceTold c cost (get_or rows (chosen - 1) row)
choice_told has_row rows_within costs_within c rows row chosen cost setup legal finished e at is same fits =
    let there = chosen_row has_row rows_within costs_within c rows row setup legal finished e
    (is ∙ ap (λ (n : ℕ). get_or rows (n - 1) row) at) in
    let a = to_z-of_z w128 cost fits in
    let b = to_z-of_z w128 row.value there.value_fits in
    let gap_is : to_z w128 (of_z w128 cost) -ℤ to_z w128 (of_z w128 row.value) ≡ c.setup.cost -ℤ row.value =
    λ i. (a ∙ same) i -ℤ b i in
    let gap_fits = subst (FitsSigned w128) (sym gap_is) there.gap_fits in
    let told : IsChoiceTold c cost row = record {
      value = b ∙ there.value_is;
      gap_fits = gap_fits;
      gap = to_z-of_z w128 (to_z w128 (of_z w128 cost) -ℤ to_z w128 (of_z w128 row.value)) gap_fits ∙ gap_is ∙
          ap (λ (z : ℤ). c.setup.cost -ℤ z) there.value_is;
    } in
    subst (IsChoiceTold c cost) is told

-- ---- the size of the chosen value

no_row : Proposal
no_row = record { prices = no_prices; value = pos 0; supply = []; reserve = [] }

pub value_told : RowsOfHistoryAreWithinLimits → (c : Content) (chosen : ℕ) → IsSetup c.setup →
    IsLegalHistory c.setup c.events → chosen ≡ chosen_of c → 1 ≤ chosen →
    chosen ≤ length (own_rows c) → IsTold (value_of c)
value_told within c chosen setup legal is first last =
    let inside : chosen_of c - 1 < length (own_rows c) = omega (arith, is, first, last) in
    let row = within c.setup c.events setup.market setup.some_ahead legal (chosen_of c - 1) no_row inside in
    let low = row.value.at_least in
    let high = row.value.at_most in
    subst IsTold
    (sym (get_or-map (λ (r : Proposal). r.value) (own_rows c) (chosen_of c - 1) no_row (pos 0) inside))
    (record { at_least = omega (arith, ints, low); at_most = omega (arith, ints, high) })
