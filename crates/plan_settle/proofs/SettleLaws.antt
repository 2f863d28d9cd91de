-- The settlement of a finished board at the prices of its chosen row.
use Rattle.plan_settle.proofs.Common.{◌≡◌, ℕ, suc, ◌-◌, ◌<◌, ◌≤◌, ℤ, true, Some, List, length, map, get_or, slice_get}
use Rattle.plan_settle.proofs.Common.{sym, ap, ◌∙◌, subst, arith, slice_get-map, slice_get-get_or, slice_get_within}
use Rattle.plan_settle.proofs.Common.{get_or_from_slice_get, AllZip, AnyUnit, Market, Schedule, units, unit_count}
use Rattle.plan_settle.proofs.Common.{proposal_of, Proposal, chosen_number, int_at, IsSettled, Content, IsLegalHistory}
use Rattle.plan_settle.proofs.Common.{own_rows, has_finished, FinishedHasRow, RowsOfHistoryAreWithinLimits, kept_answer}
use Rattle.plan_settle.proofs.Common.{IsSetup}
use Rattle.plan_settle.proofs.Common.{Settlement, OneIsChosen, IsSettledRecord, AnswersToRowEarnTheMost}
use Rattle.std.specs.Option.{option_map}
use Rattle.uc_model.specs.Earnings.{IsTop}
use Rattle.uc_model.specs.declared.cases.Row.{Row}

-- a row is chosen
pub record IsPlace (c : Content) (chosen : ℕ) : Type 0 where
  pub some : 1 ≤ length (own_rows c)
  pub first : 1 ≤ chosen
  pub last : chosen ≤ length (own_rows c)

pub chosen_place : FinishedHasRow → OneIsChosen → (c : Content) (chosen : ℕ) → IsSetup c.setup → has_finished c ≡ true →
    chosen ≡ chosen_number (own_rows c) → IsPlace c chosen
chosen_place has_row chosen_is c chosen setup finished is =
    let some = has_row c setup.some_ahead setup.some_budget finished in
    let k = chosen_is (own_rows c) some in
    let number = is ∙ k.2 in
    let inside = k.1 in
    record { some = some; first = omega (arith, number); last = omega (arith, number, inside) }

-- the row that a slice has at its place
pub row_at_place : (c : Content) (rows : List Row) (chosen : ℕ) (row : Row) → map proposal_of rows ≡ own_rows c →
    chosen - 1 < length rows → row ≡ get_or rows (chosen - 1) row →
    slice_get (own_rows c) (chosen - 1) ≡ Some (proposal_of row)
row_at_place c rows chosen row same inside is =
    ap (λ (xs : List Proposal). slice_get xs (chosen - 1)) (sym same) ∙ slice_get-map proposal_of rows (chosen - 1)
    ∙ ap (option_map proposal_of) (slice_get-get_or rows (chosen - 1) row inside) ∙
    ap (λ (r : Row). Some (proposal_of r)) (sym is)

-- its prices are over the periods of the case
pub row_is_long : RowsOfHistoryAreWithinLimits → (c : Content) (chosen : ℕ) (row : Row) (m : Market) → IsSetup c.setup →
    IsLegalHistory c.setup c.events → slice_get (own_rows c) (chosen - 1) ≡ Some (proposal_of row) →
    m ≡ c.setup.market →
    length row.prices.energy.items ≡ m.periods
row_is_long rows_are_within c chosen row m setup legal is same =
    let p = proposal_of row in
    let inside = slice_get_within (own_rows c) (chosen - 1) p is in
    let within = (rows_are_within c.setup c.events setup.market setup.some_ahead legal (chosen - 1) p inside).horizon in
    sym (ap (λ (r : Proposal). length r.prices.energy) (get_or_from_slice_get (own_rows c) (chosen - 1) p p is)) ∙
    within ∙ sym (ap (λ (n : Market). n.periods) same)

-- what the units earn at best
pub tops_for : AnswersToRowEarnTheMost → (c : Content) (chosen : ℕ) (row : Proposal) (m : Market) (earned xs : List ℤ) →
    IsSetup c.setup → IsLegalHistory c.setup c.events → IsPlace c chosen →
    slice_get (own_rows c) (chosen - 1) ≡ Some row → length earned ≡ unit_count c.setup.market →
    ((u : ℕ) → u < unit_count c.setup.market → int_at earned u ≡ (kept_answer c chosen u).earned) → m ≡ c.setup.market →
    xs ≡ earned →
    AllZip (λ (u : AnyUnit) (e : ℤ). IsTop u row.prices e) (units m) xs
tops_for tops_at c chosen row m earned xs setup legal index is count each same list =
    let number : chosen ≡ suc (chosen - 1) = omega (arith, index.first) in
    let top = tops_at c (chosen - 1) row setup.some_ahead legal is earned count
    (λ u h. subst (λ (n : ℕ). int_at earned u ≡ (kept_answer c n u).earned) number (each u h)) in
    subst (λ (ys : List ℤ). AllZip (λ (u : AnyUnit) (e : ℤ). IsTop u row.prices e) (units m) ys) (sym list)
    (subst (λ (n : Market). AllZip (λ (u : AnyUnit) (e : ℤ). IsTop u row.prices e) (units n) earned) (sym same) top)

-- the settled record
pub settled_record : (c : Content) (s : Settlement) (chosen : ℕ) (row : Proposal) (m : Market) (plan : List Schedule) →
    IsSetup c.setup → IsLegalHistory c.setup c.events → has_finished c ≡ true →
    chosen ≡ chosen_number (own_rows c) → slice_get (own_rows c) (chosen - 1) ≡ Some row → m ≡ c.setup.market →
    plan ≡ c.setup.plan →
    IsSettled m plan row.prices s.scheduled.items s.payments.items s.surplus s.total → IsSettledRecord c s row
settled_record c s chosen row m plan setup legal finished number is same_market same_plan settled =
    let some = setup.market.some_unit in
    record {
      some_unit = omega (arith, some);
      some_budget = setup.some_budget;
      some_ahead = setup.some_ahead;
      feasible = setup.feasible;
      cost = setup.cost;
      legal = legal;
      finished = finished;
      chosen = subst (λ (n : ℕ). slice_get (own_rows c) (n - 1) ≡ Some row) number is;
      settled = subst (λ (p : List Schedule). IsSettled c.setup.market p row.prices s.scheduled.items s.payments.items
          s.surplus s.total) same_plan
          (subst (λ (n : Market). IsSettled n plan row.prices s.scheduled.items s.payments.items s.surplus s.total)
          same_market settled);
    }
