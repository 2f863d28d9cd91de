-- Whatever was read of its files, something is due of a command: each step gives what it goes on with, or refuses.
use Rattle.law_outcome.proofs.Common.{◌≡◌, ℕ, ◌<◌, ◌⊎◌, inl, inr, List, [], ◌∷◌, Some, Result, Ok, Err, refl}
use Rattle.law_outcome.proofs.Common.{sym, ap}
use Rattle.law_outcome.proofs.Common.{◌∙◌, subst, arith, cases_lt, slice_get, Market, Schedule, Asked, price, check}
use Rattle.law_outcome.proofs.Common.{try}
use Rattle.law_outcome.proofs.Common.{bound, fixed, audit, settle, certify, convex, words_of, WordFault}
use Rattle.law_outcome.proofs.Common.{CaseFile, ScheduleFile, ReportFile, PricesFile, MixtureFile, TopFault, PlanRule}
use Rattle.law_outcome.proofs.Common.{MixtureRule, Unfit, OutOfForm, Wrong, Words, Then, Reads, bytes_of, IsBytes}
use Rattle.law_outcome.proofs.Common.{case_fault, plan_fault, prices_fault, mixture_fault, IsCase, IsCaseFile, IsPlan}
use Rattle.law_outcome.proofs.Common.{IsPlanFile, IsChecked, IsInput, IsMade, IsWithinWork, IsReportIn, IsReportFile}
use Rattle.law_outcome.proofs.Common.{IsJudged, IsAudit, IsPrices, IsPricesFile, IsPriced, IsShares, IsSharesFile}
use Rattle.law_outcome.proofs.Common.{IsMixed}
use Rattle.law_outcome.proofs.Common.{IsMixtureFile, HasMixture, IsCertifiable, IsWithinRounds, rounds_for}
use Rattle.law_outcome.proofs.Common.{MixtureLists}
use Rattle.law_outcome.proofs.Common.{PlannedCase, command_for, Report, report_text, IsRightReport}
use Rattle.law_outcome.proofs.Common.{TextDeterminesReport}
use Rattle.law_outcome.proofs.Common.{RightReportHasForm, OneRightReport, IsFeasiblePlan, plan_cost, IsMixture}
use Rattle.std.specs.Result.{result_map_both}
use Rattle.uc_model.specs.Laws.{HasPlanShape, FeasibleExactlyWithoutBrokenRule}
use Rattle.uc_model.specs.Refusals.{Refusal, refusals}
use Rattle.plan_check.specs.declared.RuleFault.{RuleFault}
use Rattle.gap_proof.specs.Mixtures.{HasMixtureShape}
use Rattle.gap_proof.specs.MixtureRefused.{EntryRefusal, mixture_refusals}
use Rattle.gap_proof.specs.declared.mixture_check.EntryFault.{EntryFault}
use Rattle.uc_plan.specs.Laws.{SomePlan}
use Rattle.uc_mixture.specs.Laws.{SomeMixture}
use Rattle.law_parts.specs.CaseLaws.{SomeCase}
use Rattle.law_parts.specs.PriceLaws.{SomePrices}
use Rattle.right_report.specs.Existence.{RightReportsExist}
use Rattle.report_read.specs.Bounds.{IsReport}
use Rattle.report_read.specs.Laws.{EachTextIsReportOrHasFault}
use Rattle.report_compare.specs.Right.{SomeDifference}
use Rattle.case_make.proofs.MarketLaws.{made_feasible}
use Rattle.case_make.specs.Words.{start_of}
use Rattle.hull_input.specs.Steps.{within_work}
use Rattle.hull_command.specs.FurtherSteps.{made_case}
use Rattle.law_outcome.specs.Existence.{SomethingIsDue}
use Rattle.law_outcome.proofs.AuditPromise.{is_within, within_has_form}
use Rattle.law_outcome.proofs.OutcomeLaws.{input_is_feasible, same_input}
use Rattle.law_outcome.proofs.PlanShapes.{plan_shape}
use Rattle.law_outcome.proofs.MixtureShapes.{mixture_shape, unbroken}

-- something that is so of a step
abbrev Found : {A : Type 0} → (Result A TopFault → Type 0) → Type 0
Found {A} P = (found : Result A TopFault) × P found

-- one step, and then the next
module _ {A B : Type 0} (first : Result A TopFault → Type 0) (next : A → Result B TopFault → Type 0) where
  some_then : Found first → ((x : A) → first (Ok x) → Found (next x)) → Found (Then first next)
  some_then (Ok x, is) more = let b = more x is in (b.0, (Ok x, is, b.1))
  some_then (Err f, is) more = (Err f, (Err f, is, refl))

-- what there is of each kind of file
pub record AreThere : Type 0 where
  pub case : SomeCase
  pub plan : SomePlan
  pub exact : FeasibleExactlyWithoutBrokenRule
  pub report : EachTextIsReportOrHasFault
  pub right : RightReportsExist
  pub one_right : OneRightReport
  pub text : TextDeterminesReport
  pub form : RightReportHasForm
  pub differs : SomeDifference
  pub prices : SomePrices
  pub mixture : SomeMixture

-- ---- two texts

same_or_not : (xs ys : List ℕ) → (xs ≡ ys) ⊎ (xs ≡ ys → ⊥)
same_or_not [] [] = inl refl
same_or_not [] (y ∷ ys) = inr (λ e. absurd cc)
same_or_not (x ∷ xs) [] = inr (λ e. absurd cc)
same_or_not (x ∷ xs) (y ∷ ys) = elim (cases_lt x y) [
  | inl low ↦ inr (λ e. let h : x ≡ y = cc in omega (arith, low, h))
  | inr up ↦ elim (cases_lt y x) [
    | inl low ↦ inr (λ e. let h : x ≡ y = cc in omega (arith, low, h))
    | inr down ↦ let same : x ≡ y = omega (arith, up, down) in
        elim (same_or_not xs ys) [
          | inl rest ↦ inl (ap (λ (z : ℕ). z ∷ xs) same ∙ ap (λ (zs : List ℕ). y ∷ zs) rest)
          | inr other ↦ inr (λ e. let h : xs ≡ ys = cc in other h)
        ]
  ]
]

-- ---- a fault of each refusal

abbrev fault_of : Refusal → RuleFault
fault_of r = record {
  code = r.rule;
  kind = r.kind;
  unit = r.unit;
  period = r.period;
  left = r.left;
  right = r.right;
}

abbrev entry_fault_of : EntryRefusal → EntryFault
entry_fault_of r = record { entry = r.entry; fault = fault_of r.refusal }

module _ (there : AreThere) (reads : Reads) where
  -- ---- case and schedule

  some_case : Found (IsCaseFile (reads CaseFile))
  some_case = some_then (IsBytes CaseFile (reads CaseFile)) IsCase (bytes_of CaseFile (reads CaseFile), refl)
      (λ bytes is. let found = there.case bytes in
      (result_map_both (λ m. m) case_fault found.0, (found.0, found.1, refl)))

  some_plan : (m : Market) → Found (IsPlanFile m (reads ScheduleFile))
  some_plan m =
      some_then (IsBytes ScheduleFile (reads ScheduleFile)) (IsPlan m)
      (bytes_of ScheduleFile (reads ScheduleFile), refl)
      (λ bytes is. let found = there.plan m bytes in
      (result_map_both (λ plan. plan) plan_fault found.0, (found.0, found.1, refl)))

  shape_of : (m : Market) (plan : List Schedule) → IsPlanFile m (reads ScheduleFile) (Ok plan) → HasPlanShape m plan
  shape_of m plan (Ok bytes, is, (Ok p, found, e)) =
      let same : p ≡ plan = cc in subst (HasPlanShape m) same (plan_shape m bytes p found)
  shape_of m plan (Ok bytes, is, (Err f, found, e)) = absurd cc
  shape_of m plan (Err f, is, e) = absurd cc

  some_checked : (m : Market) (plan : List Schedule) → HasPlanShape m plan → Found (IsChecked m plan)
  some_checked m plan shape = by_refusals (refusals m plan) refl
    where
      by_refusals : (rs : List Refusal) → refusals m plan ≡ rs → Found (IsChecked m plan)
      by_refusals [] none =
          let c : PlannedCase = record { market = m; plan = plan; cost = plan_cost m plan } in
          (Ok c, ((there.exact m plan shape).0 none, none, refl))
      by_refusals (r ∷ rs) some =
          (Err (PlanRule (fault_of r)), (fault_of r, refl, ap (λ (l : List Refusal). slice_get l 0) some))

  some_input : Found (IsInput reads)
  some_input =
      some_then (IsCaseFile (reads CaseFile)) (λ m. Then (IsPlanFile m (reads ScheduleFile)) (IsChecked m)) some_case
      (λ m case. some_then (IsPlanFile m (reads ScheduleFile)) (IsChecked m) (some_plan m)
      (λ plan is. some_checked m plan (shape_of m plan is)))

  -- and then one more step
  after_input : (next : PlannedCase → Result PlannedCase TopFault → Type 0) →
      ((c : PlannedCase) → IsInput reads (Ok c) → Found (next c)) → Found (Then (IsInput reads) next)
  after_input next more = some_then (IsInput reads) next some_input more

  some_work : (proposals : ℕ) (c : PlannedCase) → Found (IsWithinWork proposals c)
  some_work proposals c = (within_work proposals c, refl)

  some_made : (number : ℕ) → Found (IsMade number)
  some_made number = (Ok (made_case number), (made_feasible (start_of number), refl))

  -- ---- a report

  some_report : Found (IsReportFile (reads ReportFile))
  some_report =
      some_then (IsBytes ReportFile (reads ReportFile)) IsReportIn (bytes_of ReportFile (reads ReportFile), refl)
      (λ bytes is. elim (there.report bytes) [
        | inl r ↦ (Ok r.0, (r.1, r.2))
        | inr l ↦ (Err (Unfit OutOfForm l.0), (l.0, l.1, refl))
      ])

  some_judged : (r : Report) (c : PlannedCase) → IsReport r → IsFeasiblePlan c.market c.plan → Found (IsJudged r c)
  some_judged r c bounds feasible =
      let right = there.right c.market c.plan r.budget r.ahead feasible bounds.budget_at_least bounds.ahead_at_least in
      elim (same_or_not (report_text r) (report_text right.0)) [
        | inl same ↦
            let one = there.text r right.0 (within_has_form r bounds)
            (there.form c.market c.plan r.budget r.ahead right.0 right.1) same in
            (Ok c, (subst (IsRightReport c.market c.plan r.budget r.ahead) (sym one) right.1, refl))
        | inr other ↦
            let wrong : IsRightReport c.market c.plan r.budget r.ahead r → ⊥ = λ is.
            other (ap report_text (there.one_right c.market c.plan r.budget r.ahead r right.0 is right.1)) in
            let line = there.differs c.market c.plan r feasible bounds wrong in
            (Err (Unfit Wrong line.0), (line.0, wrong, line.1, refl))
      ]

  some_audit : (c : PlannedCase) → IsFeasiblePlan c.market c.plan → Found (IsAudit reads c)
  some_audit c feasible =
      some_then (IsReportFile (reads ReportFile)) (λ r. Then (IsWithinWork r.budget c) (IsJudged r)) some_report
      (λ r file. some_then (IsWithinWork r.budget c) (IsJudged r) (some_work r.budget c)
      (λ left work. some_judged r left (is_within (reads ReportFile) r file)
      (subst (λ (i : PlannedCase). IsFeasiblePlan i.market i.plan) (same_input r.budget c left work) feasible)))

  -- ---- prices and a mixture

  some_prices : (periods : ℕ) → Found (IsPricesFile periods (reads PricesFile))
  some_prices periods =
      some_then (IsBytes PricesFile (reads PricesFile)) (IsPrices periods)
      (bytes_of PricesFile (reads PricesFile), refl)
      (λ bytes is. let found = there.prices periods bytes in
      (result_map_both (λ π. π) prices_fault found.0, (found.0, found.1, refl)))

  some_priced : (c : PlannedCase) → Found (IsPriced reads c)
  some_priced c =
      some_then (IsPricesFile c.market.periods (reads PricesFile)) (λ π due. due ≡ Ok c) (some_prices c.market.periods)
      (λ π is. (Ok c, refl))

  some_shares : (m : Market) → Found (IsSharesFile m (reads MixtureFile))
  some_shares m =
      some_then (IsBytes MixtureFile (reads MixtureFile)) (IsShares m) (bytes_of MixtureFile (reads MixtureFile), refl)
      (λ bytes is. let found = there.mixture m bytes in
      (result_map_both (λ x. x) mixture_fault found.0, (found.0, found.1, refl)))

  shares_shape : (m : Market) (x : MixtureLists) → IsSharesFile m (reads MixtureFile) (Ok x) → HasMixtureShape m x
  shares_shape m x (Ok bytes, is, (Ok y, found, e)) =
      let same : y ≡ x = cc in subst (HasMixtureShape m) same (mixture_shape m bytes y found)
  shares_shape m x (Ok bytes, is, (Err f, found, e)) = absurd cc
  shares_shape m x (Err f, is, e) = absurd cc

  some_mixed : (m : Market) (x : MixtureLists) → HasMixtureShape m x → Found (IsMixed m x)
  some_mixed m x shape = by_refusals (mixture_refusals m x) refl
    where
      by_refusals : (rs : List EntryRefusal) → mixture_refusals m x ≡ rs → Found (IsMixed m x)
      by_refusals [] none = (Ok x, (unbroken m x shape none, none, refl))
      by_refusals (r ∷ rs) some =
          let f = entry_fault_of r in
          (Err (MixtureRule f), (f, refl, ap (λ (l : List EntryRefusal). slice_get l 0) some))

  some_mixture : (c : PlannedCase) → Found (HasMixture reads c)
  some_mixture c =
      some_then (IsMixtureFile c.market (reads MixtureFile)) (λ x due. due ≡ Ok c)
      (some_then (IsSharesFile c.market (reads MixtureFile)) (IsMixed c.market) (some_shares c.market)
      (λ x is. some_mixed c.market x (shares_shape c.market x is)))
      (λ x is. (Ok c, refl))

  -- ---- a command

  some_due : (w : Result Asked WordFault) → Found ((command_for w).IsDue reads)
  some_due (Ok (check a)) = some_input
  some_due (Ok (price a)) = after_input (IsWithinWork a.proposals) (λ c is. some_work a.proposals c)
  some_due (Ok (try a)) = some_then (IsMade a.number) (IsWithinWork a.proposals) (some_made a.number)
      (λ c is. some_work a.proposals c)
  some_due (Ok (bound a)) = after_input (IsWithinWork a.run.proposals) (λ c is. some_work a.run.proposals c)
  some_due (Ok (fixed a)) = after_input (IsWithinWork a.proposals) (λ c is. some_work a.proposals c)
  some_due (Ok (audit a)) = after_input (IsAudit reads) (λ c is. some_audit c (input_is_feasible reads c is).0)
  some_due (Ok (settle a)) = after_input (IsPriced reads) (λ c is. some_priced c)
  some_due (Ok (certify a)) = after_input (IsCertifiable reads) (λ c is.
      some_then (IsPriced reads c) (HasMixture reads) (some_priced c) (λ d priced. some_mixture d))
  some_due (Ok (convex a)) = after_input (IsWithinRounds a.rounds) (λ c is. some_work (rounds_for a.rounds c.market) c)
  some_due (Err f) = (Err (Words f), refl)

pub something_is_due : AreThere → SomethingIsDue
something_is_due there words reads = some_due there reads (words_of words)
