-- What the comparison of all lines tells of the two reports.
use Rattle.report_compare.proofs.Common.{◌≡◌, ℕ, ◌+◌, ◌-◌, ℤ, Result, Ok, Err, Some, List, [], ◌∷◌, ◌++◌, map, length}
use Rattle.report_compare.proofs.Common.{sym, ap, ◌∙◌, subst, arith, append_assoc, slice_get, All, AllByRecursion}
use Rattle.report_compare.proofs.Common.{AllZip, concat, flat_map, All-nil, All-cons, length-map-range_with_len}
use Rattle.report_compare.proofs.Common.{slice_get_within, get_or_from_slice_get, Schedule, Market, units, IsSum}
use Rattle.report_compare.proofs.Common.{IsWorth, Proposal, HasTotals, IsRun, Fits, IsDualValue, total_power, wider}
use Rattle.report_compare.proofs.Common.{UnitLine, Report, chosen_text, report_text, IsFlatLine, HasForm}
use Rattle.report_compare.proofs.Common.{TextDeterminesReport, RightReportHasForm, OneRightReport, IsRightReport}
use Rattle.report_compare.proofs.Common.{IsOtherLine, IsReport, AreInOrder, DiffersAt, report_of, told_of, Compares}
use Rattle.report_compare.proofs.Common.{unit_lines, report_lines, head_lines, rows_lines, foot_lines, told_lines}
use Rattle.report_compare.proofs.Common.{Answers, titles, told_from, right_of, whole_lines, WrongLine}
use Rattle.uc_model.specs.declared.kinds.Kind.TheVariants as kinds
use Rattle.report_read.specs.declared.report.Report.{Report as KeptReport}
use Rattle.report_compare.proofs.RightReports.{right_lined, ordered}
use Rattle.report_compare.specs.declared.verdict.Audit.{Audit}
use Rattle.report_compare.specs.declared.verdict.Audit.TheVariants.{Right, Wrong}
use Rattle.report_compare.proofs.FirstLine.{differ_there, not_same}
use Rattle.report_compare.proofs.LineBytes.{report_are_lines}
use Rattle.report_compare.proofs.Texts.{report_lined}

-- ---- the chosen row of a run

pub record IsMade (m : Market) (row : Proposal) : Type 0 where
  pub value : IsDualValue m row.prices row.value
  pub schedules : List Schedule
  pub fit : AllZip (λ u s. Fits u row.prices s) (units m) schedules
  pub totals : HasTotals m schedules row

pub row_made : (m : Market) (cost : ℤ) (budget ahead : ℕ) (rows : List Proposal) (k : ℕ) (row : Proposal) →
    IsRun Fits m cost budget ahead rows → slice_get rows k ≡ Some row → IsMade m row
row_made m cost budget ahead rows k row run at =
    let next = run.right.each k row (slice_get_within rows k row at) in
    subst (IsMade m) (get_or_from_slice_get rows k row row at)
    (record { value = next.value; schedules = next.schedules; fit = next.answers; totals = next.totals })

-- it is over the periods of the case
pub row_long : (m : Market) (row : Proposal) → IsMade m row → length row.supply ≡ length row.prices.energy →
    length row.prices.energy ≡ m.periods
row_long m row made long = sym long ∙ ap length made.totals.supply ∙
    length-map-range_with_len (total_power (units m) made.schedules) 0 m.periods

-- ---- the lines of a whole report

pub whole_is : (r : Report) (us : List (List ℕ))
    → us ≡ flat_map (unit_lines kinds.Thermal)
    r.thermal ++ (flat_map (unit_lines kinds.Renewable) r.renewable ++ flat_map (unit_lines kinds.Bid) r.bids)
    → whole_lines r us ≡ report_lines r
unfolding whole_lines
whole_is r us e =
    let t = flat_map (unit_lines kinds.Thermal) r.thermal in
    let w = flat_map (unit_lines kinds.Renewable) r.renewable in
    let b = flat_map (unit_lines kinds.Bid) r.bids in
    let foot = foot_lines r.surplus r.payments r.gap in
    let behind : us ++ foot ≡ t ++ (w ++ (b ++ foot)) =
    ap (λ (z : List (List ℕ)). z ++ foot) e ∙ append_assoc t (w ++ b) foot ∙
    ap (λ (z : List (List ℕ)). t ++ z) (append_assoc w b foot) in
    ap (λ (z : List (List ℕ)). head_lines r ++ (rows_lines 1 r.rows ++ (chosen_text r.chosen r.value ∷ z))) behind

pub mine_whole : (r : KeptReport) → AreInOrder 0 (map told_of r.lines.items) →
    whole_lines (report_of r) (flat_map told_lines (map told_of r.lines.items)) ≡ report_lines (report_of r)
unfolding report_of
mine_whole r o = whole_is (report_of r) (flat_map told_lines (map told_of r.lines.items))
    (sym (ordered 0 (map told_of r.lines.items) o))

pub right_whole : (m : Market) (a : Answers) (budget ahead : ℕ) (cost : ℤ) (rows : List Proposal) (chosen : ℕ)
    (value surplus payments : ℤ)
    → whole_lines (right_of m a budget ahead cost rows chosen value surplus payments)
    (flat_map told_lines (told_from a 0 (titles m))) ≡ report_lines
    (right_of m a budget ahead cost rows chosen value surplus payments)
right_whole m a budget ahead cost rows chosen value surplus payments =
    whole_is (right_of m a budget ahead cost rows chosen value surplus payments)
    (flat_map told_lines (told_from a 0 (titles m))) (right_lined m a)

pub compared_as : (result : Result ℕ WrongLine) (a b c d : List (List ℕ)) → a ≡ b → c ≡ d → Compares 1 result a c →
    Compares 1 result b d
compared_as result a b c d e f h =
    subst (λ (z : List (List ℕ)). Compares 1 result b z) f (subst (λ (z : List (List ℕ)). Compares 1 result z c) e h)

pub number_behind : (rows : List Proposal) (k : ℕ) (row : Proposal) → slice_get rows k ≡ Some row →
    slice_get rows (k + 1 - 1) ≡ Some row
number_behind rows k row at = let n : k ≡ k + 1 - 1 = omega arith in subst (λ (i : ℕ). slice_get rows i ≡ Some row) n at

pub sum_is_worth : (x : ℤ) → IsSum x → IsWorth x
sum_is_worth x h = wider 100000000000000000000000 1000000000000000000000000 x (omega arith) h

-- ---- what is told

others_flat : (n : ℕ) (us : List UnitLine) → AllByRecursion (IsOtherLine n) us → All IsFlatLine us
others_flat n [] h = All-nil IsFlatLine
others_flat n (u ∷ us) h = All-cons IsFlatLine u us h.0.flat (others_flat n us h.1)

pub bounds_form : (r : Report) → IsReport r → HasForm r
bounds_form r h = record {
  renewable = others_flat r.periods r.renewable h.renewable;
  bids =
      others_flat r.periods r.bids h.bids;
}

module _ (law : TextDeterminesReport) (r right : Report) where
  pub all_right : (m : Market) (plan : List Schedule) (budget ahead : ℕ) (next : ℕ) → RightReportHasForm → IsReport r →
      IsRightReport m plan budget ahead right
      → Compares 1 (Ok next) (report_lines r) (report_lines right) → IsRightReport m plan budget ahead r
  all_right m plan budget ahead next forms bounds is h =
      let text : report_text r ≡ report_text right = sym (report_lined r) ∙ ap concat h.0 ∙ report_lined right in
      subst (IsRightReport m plan budget ahead)
      (sym (law r right (bounds_form r bounds) (forms m plan budget ahead right is) text)) is

  pub first_wrong : (wrong : WrongLine) → Compares 1 (Err wrong) (report_lines r) (report_lines right) →
      DiffersAt (report_text r) (report_text right) wrong.line
  first_wrong wrong h =
      let there = differ_there law (report_lines r) (report_lines right) h.0 (report_are_lines r)
      (report_are_lines right) h.1 in
      subst (λ (n : ℕ). DiffersAt (report_text r) (report_text right) n) (sym h.2)
      (subst (λ (z : List ℕ). DiffersAt z (report_text right) (1 + h.0)) (report_lined r)
      (subst (λ (z : List ℕ). DiffersAt (concat (report_lines r)) z (1 + h.0)) (report_lined right) there))

  pub not_right : (m : Market) (plan : List Schedule) (budget ahead : ℕ) (wrong : WrongLine) → OneRightReport →
      IsRightReport m plan budget ahead right
      → Compares 1 (Err wrong) (report_lines r) (report_lines right) → IsRightReport m plan budget ahead r → ⊥
  not_right m plan budget ahead wrong one is h mine =
      not_same law (report_lines r) (report_lines right) h.0 h.1
      (ap report_lines (one m plan budget ahead r right mine is))

-- ---- what an audit comes to

abbrev IsWrong : Audit → Type 0
IsWrong Right = ⊥
IsWrong (Wrong line) = Unit {0}

pub wrong_right : (line : ℕ) → Wrong line ≡ Right → ⊥
wrong_right line e = subst IsWrong e tt
