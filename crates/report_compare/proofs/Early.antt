-- What the first lines tell of a report, and how many rows have to be worked out for that.
use Rattle.report_compare.proofs.Common.{◌≡◌, ℕ, ◌+◌, inl, inr, ℤ, Result, Ok, Err, List, [], ◌∷◌, codes, length, refl}
use Rattle.report_compare.proofs.Common.{sym, ap, ◌∙◌, subst, arith, min, IfOk, IfErr, Schedule, Market, Proposal}
use Rattle.report_compare.proofs.Common.{IsRun, Fits, plan_cost, TextDeterminesReport, OneRun, OneRightReport, Report}
use Rattle.report_compare.proofs.Common.{IsRightReport, Differ, Compares, right_opening, count_line, amount_line}
use Rattle.report_compare.proofs.Common.{opening_lines, number_line, later_lines, report_lines, WrongLine}
use Rattle.report_compare.specs.Right.{DiffersFromRight}
use Rattle.report_compare.proofs.Comparing.{behind, stops, here_differ}
use Rattle.report_compare.proofs.OneLine.{line_told, count_told}
use Rattle.report_compare.proofs.Verdicts.{first_wrong, not_right}

-- the report isn't right, and this is where it first differs
abbrev pub IsWrongFrom : Market → List Schedule → Report → ℕ → Type 0
IsWrongFrom m plan r line = DiffersFromRight m plan r line × (IsRightReport m plan r.budget r.ahead r → ⊥)

-- ---- the first lines

opened : (m : Market) (plan : List Schedule) (r right : Report) → IsRightReport m plan r.budget r.ahead right →
    opening_lines right ≡ right_opening m (plan_cost m plan) r
opened m plan r right h = λ i.
    codes "hull-report 1\n" ∷ count_line (codes "periods ") (h.periods_are i) ∷ count_line (codes "units ")
    (h.units_are i)
    ∷ count_line (codes "budget ") (h.budget_is i) ∷ count_line (codes "ahead ") (h.ahead_is i) ∷ amount_line
    (codes "cost ") (h.cost_is i) ∷ []

opening_of : (m : Market) (plan : List Schedule) (r right : Report) → IsRightReport m plan r.budget r.ahead right →
    right_opening m (plan_cost m plan) r ≡ opening_lines right
opening_of m plan r right h = sym (opened m plan r right h)

module _ (m : Market) (plan : List Schedule) (r right : Report) (is : IsRightReport m plan r.budget r.ahead right) where
  is_wrong : TextDeterminesReport → OneRightReport → (wrong : WrongLine) →
      Compares 1 (Err wrong) (report_lines r) (report_lines right) → IsWrongFrom m plan r wrong.line
  is_wrong law one wrong h =
      ((right, is, first_wrong law r right wrong h), not_right law r right m plan r.budget r.ahead wrong one is h)

  -- where one of the first six lines is wrong, so is the report
  pub opening_wrong : TextDeterminesReport → OneRightReport → (wrong : WrongLine) →
      Compares 1 (Err wrong) (opening_lines r) (right_opening m (plan_cost m plan) r) → IsWrongFrom m plan r wrong.line
  opening_wrong law one wrong h =
      let own = subst (λ (z : List (List ℕ)). Compares 1 (Err wrong) (opening_lines r) z) (opening_of m plan r right is)
      h in
      is_wrong law one wrong (stops 1 wrong (opening_lines r) (opening_lines right)
      (number_line (length r.rows) ∷ later_lines r) (number_line (length right.rows) ∷ later_lines right) own)

  numbers_apart : (j k : ℕ) → (j ≡ k → ⊥) → Differ (number_line j) (number_line k)
  numbers_apart j k apart = λ law e. apart (count_told law j k (line_told (codes "proposals ") _ _ e))

  -- and where these are right and there are more or fewer proposals, the seventh line is wrong
  pub number_wrong : TextDeterminesReport → OneRightReport → opening_lines r ≡ right_opening m (plan_cost m plan) r →
      (length r.rows ≡ length right.rows → ⊥) → IsWrongFrom m plan r 7
  number_wrong law one same apart =
      let wrong : WrongLine = record { line = 7 } in
      let opening : Compares 1 (Ok 7) (opening_lines r) (opening_lines right) =
      (same ∙ opening_of m plan r right is, refl) in
      is_wrong law one wrong (behind 1 7 (Err wrong) (opening_lines r) (opening_lines right)
      (number_line (length r.rows) ∷ later_lines r) (number_line (length right.rows) ∷ later_lines right) opening
      (here_differ 7 (number_line (length r.rows)) (number_line (length right.rows)) (later_lines r) (later_lines right)
      (numbers_apart (length r.rows) (length right.rows) apart)))

-- what is told of the first six lines
pub opening_told : (result : Result ℕ WrongLine) (xs ys : List (List ℕ)) → Compares 1 result xs ys →
    IfOk result (λ next. xs ≡ ys)
opening_told (Ok next) xs ys h = h.0
opening_told (Err wrong) xs ys h = tt

pub opening_fails : TextDeterminesReport → OneRightReport → (m : Market) (plan : List Schedule) (r right : Report) →
    IsRightReport m plan r.budget r.ahead right → (result : Result ℕ WrongLine)
    → Compares 1 result (opening_lines r) (right_opening m (plan_cost m plan) r) →
    IfErr result (λ wrong. IsWrongFrom m plan r wrong.line)
opening_fails law one m plan r right is (Ok next) h = tt
opening_fails law one m plan r right is (Err wrong) h = opening_wrong m plan r right is law one wrong h

-- ---- rows up to one more than there are to be

module _ (m : Market) (cost : ℤ) (budget ahead count : ℕ) (rows : List Proposal) where
  -- a run of so many rows is one for a budget of one more
  up_to : IsRun Fits m cost budget ahead rows → length rows ≡ count →
      IsRun Fits m cost (min budget (count + 1)) ahead rows
  up_to run long = record {
    right = run.right;
    within = (let within = run.within in omega (arith, within, long));
    open_so_far = run.open_so_far;
    whole = elim run.whole [ inl all ↦ inl (omega (arith, all, long)) | inr settled ↦ inr settled ];
  }

  -- and the other way round
  pub beyond : IsRun Fits m cost (min budget (count + 1)) ahead rows → length rows ≡ count →
      IsRun Fits m cost budget ahead rows
  beyond run long = record {
    right = run.right;
    within = (let within = run.within in omega (arith, within));
    open_so_far = run.open_so_far;
    whole = elim run.whole [ inl all ↦ inl (omega (arith, all, long)) | inr settled ↦ inr settled ];
  }

-- where they aren't so many, neither is the run
pub no_more : OneRun → (m : Market) (cost : ℤ) (budget ahead count : ℕ) (rows other : List Proposal) →
    IsRun Fits m cost (min budget (count + 1)) ahead rows → IsRun Fits m cost budget ahead other
    → (length rows ≡ count → ⊥) → count ≡ length other → ⊥
no_more one m cost budget ahead count rows other run whole apart long =
    apart (ap length (one m cost (min budget (count + 1)) ahead rows other run
    (up_to m cost budget ahead count other whole (sym long))) ∙ sym long)
