-- Over what was read at most one thing is due, and at most one text may be printed.
use Rattle.law_outcome.proofs.Common.{OutOfForm, Wrong, ◌≡◌, ℕ, ◌<◌, ℤ, List, length, unsigned_abs, Option, Some, inl}
use Rattle.law_outcome.proofs.Common.{inr, Result, Ok, Err, sym, ap, subst, ◌∙◌, arith, cases_lt, same_Some, slice_get}
use Rattle.law_outcome.proofs.Common.{Market, Schedule, Proposal, Asked, price, check, try, bound, fixed, audit, settle}
use Rattle.law_outcome.proofs.Common.{certify, convex, IsWithinRounds, TextFollows, WordFault}
use Rattle.law_outcome.proofs.Common.{PriceLists, PlanHasAtMostOneSettlement, Settled, IsSettledAt}
use Rattle.law_outcome.proofs.Common.{PricesFile}
use Rattle.law_outcome.proofs.Common.{prices_fault, IsPrices, IsPricesFile, IsPriced, IsSettlementText}
use Rattle.law_outcome.proofs.Common.{IsCertificateText, MixtureFile, MixtureRule, MixtureLists, mixture_fault}
use Rattle.law_outcome.proofs.Common.{IsShares, IsSharesFile, IsMixed, IsMixtureFile, HasMixture, IsCertifiable}
use Rattle.law_outcome.proofs.Common.{fixed_market, TextDeterminesReport, OneRightReport, RightReportHasForm, Report}
use Rattle.law_outcome.proofs.Common.{report_text, OneRightSide, CaseFile, ScheduleFile, ReportFile, TopFault, PlanRule}
use Rattle.law_outcome.proofs.Common.{Unfit, Goes, Then, Reads, IsBytes, case_fault, plan_fault, IsCase, IsCaseFile}
use Rattle.law_outcome.proofs.Common.{IsPlan, IsPlanFile, IsChecked, IsInput, IsMade, IsWithinWork, IsReportIn}
use Rattle.law_outcome.proofs.Common.{IsReportFile, IsJudged, IsAudit, PlannedCase, IsReportText, IsBoundText}
use Rattle.law_outcome.proofs.Common.{IsFixedText, IsAuditText, command_for}
use Rattle.std.proofs.lemmas.Int.{ints}
use Rattle.std.specs.Result.{result_map_both}
use Rattle.uc_model.specs.Refusals.{Refusal}
use Rattle.uc_case.specs.Laws.{CaseFileHasOneValueOrOneFault}
use Rattle.uc_plan.specs.Laws.{ScheduleFileHasOneValueOrOneFault}
use Rattle.uc_prices.specs.Laws.{PricesFileHasOneValueOrOneFault}
use Rattle.uc_mixture.specs.Laws.{MixtureFileHasOneValueOrOneFault}
use Rattle.gap_proof.specs.MixtureBound.{mixture_bound}
use Rattle.gap_proof.specs.MixtureRefused.{EntryRefusal, entry_refusal_of}
use Rattle.gap_proof.specs.declared.mixture_check.EntryFault.{EntryFault}
use Rattle.report_form.specs.CertificateText.{certificate_text}
use Rattle.hull_report.specs.CertifiedText.{certificate_of}
use Rattle.report_form.specs.SettlementText.{settlement_text}
use Rattle.hull_report.specs.SettledText.{settlement_of}
use Rattle.plan_check.specs.Checks.{refusal_of}
use Rattle.plan_check.specs.declared.RuleFault.{RuleFault}
use Rattle.gap_proof.specs.Candidates.{RowRange, candidates, range_bound, prices_of_row, IsFirstLeast}
use Rattle.hull_report.specs.BoundText.{bound_text}
use Rattle.hull_report.specs.FixedText.{fixed_text}
use Rattle.hull_report.specs.AuditText.{audit_text}
use Rattle.hull_report.specs.TryText.{try_text}
use Rattle.report_read.specs.Differences.{DiffersAt}
use Rattle.report_read.specs.Laws.{OneReport, AtMostOneLineIsInFault, OneDifference}

-- one step's answer and then the next's are one, where each is
module _ {A B : Type 0} (first : Result A TopFault → Type 0) (next : A → Result B TopFault → Type 0) where
  one_then : ((a b : Result A TopFault) → first a → first b → a ≡ b) →
      ((x : A) (a b : Result B TopFault) → next x a → next x b → a ≡ b)
      → (a b : Result B TopFault) → Then first next a → Then first next b → a ≡ b
  one_then one ones a b (c, is_c, goes_c) (d, is_d, goes_d) =
      same d (subst (λ e. Goes e next a) (one c d is_c is_d) goes_c) goes_d
    where
      same : (d : Result A TopFault) → Goes d next a → Goes d next b → a ≡ b
      same (Ok x) p q = ones x a b p q
      same (Err f) p q = p ∙ sym q

-- a fault is all that its refusal tells
one_fault : (f g : RuleFault) → refusal_of f ≡ refusal_of g → f ≡ g
one_fault f g e =
    ap (λ (r : Refusal). record {
      code = r.rule;
      kind = r.kind;
      unit = r.unit;
      period = r.period;
      left = r.left;
      right =
          r.right;
    }) e

one_checked : (m : Market) (plan : List Schedule) (a b : Result PlannedCase TopFault) → IsChecked m plan a →
    IsChecked m plan b → a ≡ b
one_checked m plan (Ok x) (Ok y) p q = ap Ok (p.2 ∙ sym q.2)
one_checked m plan (Ok x) (Err g) p q = let e = ap (λ (xs : List Refusal). slice_get xs 0) p.1 in let h = q.2 in cc
one_checked m plan (Err f) (Ok y) p q = let e = ap (λ (xs : List Refusal). slice_get xs 0) q.1 in let h = p.2 in cc
one_checked m plan (Err f) (Err g) (r, is_r, p) (s, is_s, q) =
    let same : refusal_of r ≡ refusal_of s = cc in ap Err (is_r ∙ ap PlanRule (one_fault r s same) ∙ sym is_s)

-- what there is at most one of
pub record AreOne : Type 0 where
  pub case : CaseFileHasOneValueOrOneFault
  pub plan : ScheduleFileHasOneValueOrOneFault
  pub report : OneReport
  pub fault : AtMostOneLineIsInFault
  pub right : OneRightReport
  pub difference : OneDifference
  pub prices : PricesFileHasOneValueOrOneFault
  pub mixture : MixtureFileHasOneValueOrOneFault

-- at most one input is due
module _ (case : CaseFileHasOneValueOrOneFault) (plan : ScheduleFileHasOneValueOrOneFault) where
  one_case_in : (bytes : List ℕ) (a b : Result Market TopFault) → IsCase bytes a → IsCase bytes b → a ≡ b
  one_case_in bytes a b (r, is_r, p) (s, is_s, q) =
      p ∙ ap (result_map_both (λ m. m) case_fault) (case bytes r s is_r is_s) ∙ sym q

  one_plan_in : (m : Market) (bytes : List ℕ) (a b : Result (List Schedule) TopFault) → IsPlan m bytes a →
      IsPlan m bytes b → a ≡ b
  one_plan_in m bytes a b (r, is_r, p) (s, is_s, q) =
      p ∙ ap (result_map_both (λ plan. plan) plan_fault) (plan m bytes r s is_r is_s) ∙ sym q

  pub one_input : (reads : Reads) (a b : Result PlannedCase TopFault) → IsInput reads a → IsInput reads b → a ≡ b
  one_input reads =
      one_then (IsCaseFile (reads CaseFile)) (λ m. Then (IsPlanFile m (reads ScheduleFile)) (IsChecked m))
      (one_then (IsBytes CaseFile (reads CaseFile)) IsCase (λ a b p q. p ∙ sym q) one_case_in)
      (λ m. one_then (IsPlanFile m (reads ScheduleFile)) (IsChecked m)
      (one_then (IsBytes ScheduleFile (reads ScheduleFile)) (IsPlan m) (λ a b p q. p ∙ sym q) (one_plan_in m))
      (one_checked m))

module _ (prices : PricesFileHasOneValueOrOneFault) where
  one_prices_in : (periods : ℕ) (bytes : List ℕ) (a b : Result PriceLists TopFault) → IsPrices periods bytes a →
      IsPrices periods bytes b → a ≡ b
  one_prices_in periods bytes a b (r, is_r, p) (s, is_s, q) =
      p ∙ ap (result_map_both (λ π. π) prices_fault) (prices periods bytes r s is_r is_s) ∙ sym q

  pub one_prices_file : (periods : ℕ) (read : Option (List ℕ)) (a b : Result PriceLists TopFault) →
      IsPricesFile periods read a → IsPricesFile periods read b → a ≡ b
  one_prices_file periods read =
      one_then (IsBytes PricesFile read) (IsPrices periods) (λ a b p q. p ∙ sym q) (one_prices_in periods)

  one_priced : (reads : Reads) (c : PlannedCase) (a b : Result PlannedCase TopFault) → IsPriced reads c a →
      IsPriced reads c b → a ≡ b
  one_priced reads c =
      one_then (IsPricesFile c.market.periods (reads PricesFile)) (λ π due. due ≡ Ok c)
      (one_prices_file c.market.periods (reads PricesFile)) (λ π a b p q. p ∙ sym q)

-- a fault of an entry is all that its refusal tells
one_entry_fault : (f g : EntryFault) → entry_refusal_of f ≡ entry_refusal_of g → f ≡ g
one_entry_fault f g e = ap (λ (r : EntryRefusal). record {
  entry = r.entry;
  fault = record {
    code = r.refusal.rule;
    kind = r.refusal.kind;
    unit = r.refusal.unit;
    period = r.refusal.period;
    left = r.refusal.left;
    right = r.refusal.right;
  };
}) e

one_mixed : (m : Market) (x : MixtureLists) (a b : Result MixtureLists TopFault) → IsMixed m x a → IsMixed m x b → a ≡ b
one_mixed m x (Ok y) (Ok z) p q = ap Ok (p.2 ∙ sym q.2)
one_mixed m x (Ok y) (Err g) p q = let e = ap (λ (rs : List EntryRefusal). slice_get rs 0) p.1 in let h = q.2 in cc
one_mixed m x (Err f) (Ok z) p q = let e = ap (λ (rs : List EntryRefusal). slice_get rs 0) q.1 in let h = p.2 in cc
one_mixed m x (Err f) (Err g) (r, is_r, p) (s, is_s, q) =
    let same : entry_refusal_of r ≡ entry_refusal_of s = cc in
    ap Err (is_r ∙ ap MixtureRule (one_entry_fault r s same) ∙ sym is_s)

module _ (mixture : MixtureFileHasOneValueOrOneFault) where
  one_shares : (m : Market) (bytes : List ℕ) (a b : Result MixtureLists TopFault) → IsShares m bytes a →
      IsShares m bytes b → a ≡ b
  one_shares m bytes a b (r, is_r, p) (s, is_s, q) =
      p ∙ ap (result_map_both (λ x. x) mixture_fault) (mixture m bytes r s is_r is_s) ∙ sym q

  pub one_mixture_file : (m : Market) (read : Option (List ℕ)) (a b : Result MixtureLists TopFault) →
      IsMixtureFile m read a → IsMixtureFile m read b → a ≡ b
  one_mixture_file m read =
      one_then (IsSharesFile m read) (IsMixed m)
      (one_then (IsBytes MixtureFile read) (IsShares m) (λ a b p q. p ∙ sym q) (one_shares m)) (one_mixed m)

  one_with_mixture : (reads : Reads) (c : PlannedCase) (a b : Result PlannedCase TopFault) → HasMixture reads c a →
      HasMixture reads c b → a ≡ b
  one_with_mixture reads c =
      one_then (IsMixtureFile c.market (reads MixtureFile)) (λ x due. due ≡ Ok c)
      (one_mixture_file c.market (reads MixtureFile)) (λ x a b p q. p ∙ sym q)

module _ (ones : AreOne) where
  one_made : (number : ℕ) (a b : Result PlannedCase TopFault) → IsMade number a → IsMade number b → a ≡ b
  one_made number (Ok x) (Ok y) p q = ap Ok (p.1 ∙ sym q.1)
  one_made number (Ok x) (Err g) p q = absurd q
  one_made number (Err f) b p q = absurd p

  one_report_in : (bytes : List ℕ) (a b : Result Report TopFault) → IsReportIn bytes a → IsReportIn bytes b → a ≡ b
  one_report_in bytes (Ok r) (Ok s) p q = ap Ok (ones.report r s p.0 q.0 (sym p.1 ∙ q.1))
  one_report_in bytes (Ok r) (Err g) p (line, fault, is) = absurd (fault.none r p.0 p.1)
  one_report_in bytes (Err f) (Ok s) (line, fault, is) q = absurd (fault.none s q.0 q.1)
  one_report_in bytes (Err f) (Err g) (k, fault, is) (l, other, also) =
      ap Err (is ∙ ap (Unfit OutOfForm) (ones.fault bytes k l fault other) ∙ sym also)

  one_judged : (r : Report) (c : PlannedCase) (a b : Result PlannedCase TopFault) → IsJudged r c a → IsJudged r c b →
      a ≡ b
  one_judged r c (Ok x) (Ok y) p q = ap Ok (p.1 ∙ sym q.1)
  one_judged r c (Ok x) (Err g) p (line, wrong, differs, is) = absurd (wrong p.0)
  one_judged r c (Err f) (Ok y) (line, wrong, differs, is) q = absurd (wrong q.0)
  one_judged r c (Err f) (Err g) (k, wrong, (right, is_right, differs), is) (l, again, (same, is_same, other), also) =
      let e = ones.right c.market c.plan r.budget r.ahead same right is_same is_right in
      let line = ones.difference (report_text r) (report_text right) k l differs
      (subst (λ (x : Report). DiffersAt (report_text r) (report_text x) l) e other) in
      ap Err (is ∙ ap (Unfit Wrong) line ∙ sym also)

  one_audit : (reads : Reads) (c : PlannedCase) (a b : Result PlannedCase TopFault) → IsAudit reads c a →
      IsAudit reads c b → a ≡ b
  one_audit reads c =
      one_then (IsReportFile (reads ReportFile)) (λ r. Then (IsWithinWork r.budget c) (IsJudged r))
      (one_then (IsBytes ReportFile (reads ReportFile)) IsReportIn (λ a b p q. p ∙ sym q) one_report_in)
      (λ r. one_then (IsWithinWork r.budget c) (IsJudged r) (λ a b p q. p ∙ sym q) (one_judged r))

  pub one_due : (w : Result Asked WordFault) (reads : Reads) (a b : Result PlannedCase TopFault) →
      (command_for w).IsDue reads a → (command_for w).IsDue reads b → a ≡ b
  one_due (Ok (check x)) reads a b p q = one_input ones.case ones.plan reads a b p q
  one_due (Ok (price x)) reads a b p q =
      one_then (IsInput reads) (IsWithinWork x.proposals) (one_input ones.case ones.plan reads) (λ c a b p q. p ∙ sym q)
      a b p q
  one_due (Ok (try x)) reads a b p q =
      one_then (IsMade x.number) (IsWithinWork x.proposals) (one_made x.number) (λ c a b p q. p ∙ sym q) a b p q
  one_due (Ok (bound x)) reads a b p q =
      one_then (IsInput reads) (IsWithinWork x.run.proposals) (one_input ones.case ones.plan reads)
      (λ c a b p q. p ∙ sym q) a b p q
  one_due (Ok (fixed x)) reads a b p q =
      one_then (IsInput reads) (IsWithinWork x.proposals) (one_input ones.case ones.plan reads) (λ c a b p q. p ∙ sym q)
      a b p q
  one_due (Ok (audit x)) reads a b p q =
      one_then (IsInput reads) (IsAudit reads) (one_input ones.case ones.plan reads) (one_audit reads) a b p q
  one_due (Ok (settle x)) reads a b p q = one_then (IsInput reads) (IsPriced reads)
      (one_input ones.case ones.plan reads) (one_priced ones.prices reads) a b p q
  one_due (Ok (certify x)) reads a b p q =
      one_then (IsInput reads) (IsCertifiable reads) (one_input ones.case ones.plan reads)
      (λ c. one_then (IsPriced reads c) (HasMixture reads) (one_priced ones.prices reads c)
      (one_with_mixture ones.mixture reads)) a b p q
  one_due (Ok (convex x)) reads a b p q =
      one_then (IsInput reads) (IsWithinRounds x.rounds) (one_input ones.case ones.plan reads) (λ c a b p q. p ∙ sym q)
      a b p q
  one_due (Err f) reads a b p q = p ∙ sym q

-- there is one first candidate with the least bound
module _ (m : Market) (rows : List Proposal) (centre : ℕ) (radius : ℤ) where
  never_later : (range other : RowRange) (limit above : ℤ) (best : IsFirstLeast m rows centre radius range limit)
      (best_other : IsFirstLeast m rows centre radius other above)
      → best.index < best_other.index → ⊥
  never_later range other limit above best best_other before =
      let a = best_other.earlier best.index range before best.is in
      let b = best.least best_other.index other best_other.is in
      let c = best.bound_is in
      let d = best_other.bound_is in
      omega (arith, ints, a, b, c, d)

  same_range : (k j : ℕ) (range other : RowRange) → k ≡ j → slice_get (candidates (length rows) centre) k ≡ Some range →
      slice_get (candidates (length rows) centre) j ≡ Some other → range ≡ other
  same_range k j range other same is is_other =
      same_Some range other (sym is ∙ ap (λ (n : ℕ). slice_get (candidates (length rows) centre) n) same ∙ is_other)

  one_best : (range other : RowRange) (limit above : ℤ) → IsFirstLeast m rows centre radius range limit →
      IsFirstLeast m rows centre radius other above → (range ≡ other) × (limit ≡ above)
  one_best range other limit above best best_other =
      elim (cases_lt best.index best_other.index) [
        | inl before ↦ absurd (never_later range other limit above best best_other before)
        | inr after ↦ elim (cases_lt best_other.index best.index) [
          | inl before ↦ absurd (never_later other range above limit best_other best before)
          | inr here ↦
              let same = same_range best.index best_other.index range other (omega (arith, after, here)) best.is
              best_other.is in (
                same,
                best.bound_is ∙ ap (λ (r : RowRange). range_bound m rows (prices_of_row rows centre) radius r) same
                    ∙ sym best_other.bound_is,
              )
        ]
      ]

module _ (one : OneRightReport) (one_side : OneRightSide) (determined : TextDeterminesReport)
    (has_form : RightReportHasForm) (prices : PricesFileHasOneValueOrOneFault) (settled : PlanHasAtMostOneSettlement)
    (mixture : MixtureFileHasOneValueOrOneFault) where
  one_report_text : (text_of : Report → List ℕ) (budget ahead : ℕ) (c : PlannedCase) (text other : List ℕ)
      → IsReportText text_of budget ahead c text → IsReportText text_of budget ahead c other → text ≡ other
  one_report_text text_of budget ahead c text other (r, is_r, p) (s, is_s, q) =
      p ∙ ap text_of (one c.market c.plan budget ahead r s is_r is_s) ∙ sym q

  one_bound_text : (budget ahead : ℕ) (radius : ℤ) (c : PlannedCase) (text other : List ℕ)
      → IsBoundText budget ahead radius c text → IsBoundText budget ahead radius c other → text ≡ other
  one_bound_text budget ahead radius c text other (r, is_r, range, limit, best, p)
      (s, is_s, range_s, limit_s, best_s, q) =
      let same = one c.market c.plan budget ahead r s is_r is_s in
      let told = one_best c.market s.rows s.chosen radius range range_s limit limit_s
      (subst (λ (x : Report). IsFirstLeast c.market x.rows x.chosen radius range limit) same best) best_s in
      p ∙ (λ i. bound_text (length (same i).rows) (same i).chosen (same i).value (unsigned_abs radius) (told.0 i).first
      (told.0 i).last (told.1 i)) ∙ sym q

  one_fixed_text : (budget ahead : ℕ) (c : PlannedCase) (text other : List ℕ) → IsFixedText budget ahead c text →
      IsFixedText budget ahead c other → text ≡ other
  one_fixed_text budget ahead c text other (hull, held, is_hull, is_held, p) (more, less, is_more, is_less, q) =
      let a = one_side c.market c.market c.plan budget ahead hull more is_hull is_more in
      let b = one_side c.market (fixed_market c.market c.plan) c.plan budget ahead held less is_held is_less in
      p ∙ (λ i. fixed_text c.market c.cost (a i) (b i)) ∙ sym q

  one_audit_text : (read : Option (List ℕ)) (c : PlannedCase) (text other : List ℕ) → IsAuditText read c text →
      IsAuditText read c other → text ≡ other
  one_audit_text read c text other (r, read_r, is_r, p) (s, read_s, is_s, q) =
      let form = has_form c.market c.plan r.budget r.ahead r is_r in
      let form_other = has_form c.market c.plan s.budget s.ahead s is_s in
      let same = determined r s form form_other (same_Some (report_text r) (report_text s) (sym read_r ∙ read_s)) in
      p ∙ ap (λ (x : Report). audit_text (length x.rows)) same ∙ sym q

  one_settlement_text : (read : Option (List ℕ)) (c : PlannedCase) (text other : List ℕ) →
      IsSettlementText read c text → IsSettlementText read c other → text ≡ other
  one_settlement_text read c text other (π, file, s, is_s, p) (ρ, file_other, t, is_t, q) =
      let e = one_prices_file prices c.market.periods read (Ok π) (Ok ρ) file file_other in
      let same : π ≡ ρ = cc in
      let one_settled = settled c.market c.plan ρ s t
      (subst (λ (x : PriceLists). IsSettledAt c.market c.plan x s) same is_s) is_t in
      p ∙ ap (λ (x : Settled). settlement_text (settlement_of c.market c.cost x)) one_settled ∙ sym q

  one_certificate_text : (read mixture_read : Option (List ℕ)) (radius : ℤ) (c : PlannedCase) (text other : List ℕ)
      → IsCertificateText read mixture_read radius c text → IsCertificateText read mixture_read radius c other →
      text ≡ other
  one_certificate_text read mixture_read radius c text other (π, file, x, mixture_file, s, is_s, p)
      (ρ, file_other, y, mixture_other, t, is_t, q) =
      let e = one_prices_file prices c.market.periods read (Ok π) (Ok ρ) file file_other in
      let same : π ≡ ρ = cc in
      let k = one_mixture_file mixture c.market mixture_read (Ok x) (Ok y) mixture_file mixture_other in
      let same_mixture : x ≡ y = cc in
      let one_settled = settled c.market c.plan ρ s t
      (subst (λ (x : PriceLists). IsSettledAt c.market c.plan x s) same is_s) is_t in
      p ∙ (λ i. certificate_text (certificate_of c.market c.cost (one_settled i) (unsigned_abs radius)
      (mixture_bound c.market (same_mixture i) (same i) radius))) ∙ sym q

  pub one_text : (w : Result Asked WordFault) (reads : Reads) (c : PlannedCase) (text other : List ℕ) →
      TextFollows w → (command_for w).IsText reads c text → (command_for w).IsText reads c other → text ≡ other
  one_text (Ok (check x)) reads c text other follows p q = p ∙ sym q
  one_text (Ok (price x)) reads c text other follows p q = one_report_text report_text x.proposals x.ahead c
      text other p q
  one_text (Ok (try x)) reads c text other follows p q =
      one_report_text (try_text x.number) x.proposals x.ahead c text other p q
  one_text (Ok (bound x)) reads c text other follows p q = one_bound_text x.run.proposals x.run.ahead x.radius
      c text other p q
  one_text (Ok (fixed x)) reads c text other follows p q = one_fixed_text x.proposals x.ahead c text other p q
  one_text (Ok (audit x)) reads c text other follows p q = one_audit_text (reads ReportFile) c text other p q
  one_text (Ok (settle x)) reads c text other follows p q = one_settlement_text (reads PricesFile) c text other p q
  one_text (Ok (certify x)) reads c text other follows p q =
      one_certificate_text (reads PricesFile) (reads MixtureFile) x.radius c text other p q
  one_text (Ok (convex x)) reads c text other follows p q = absurd follows
  one_text (Err f) reads c text other follows p q = absurd p
