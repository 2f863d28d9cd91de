-- What follows from the outcome of a run.
use Rattle.law_outcome.proofs.Common.{◌≡◌, ℕ, ◌*◌, ◌≤◌, ◌⊎◌, inl, inr, Bool, true, false, List, Option, None, Some}
use Rattle.law_outcome.proofs.Common.{Result, Ok, Err, refl, sym, ap, ◌∙◌, subst, arith, ◌-◌, ◌<◌, ℤ, pos, ◌≤ℤ◌, All}
use Rattle.law_outcome.proofs.Common.{length-map, get_or-map, IsTrue, IfSome, IsSome, if◌then◌else◌, nat_lt, Market}
use Rattle.law_outcome.proofs.Common.{Schedule, unit_count, IsFeasiblePlan, plan_cost, int_at, PaymentsAreAtLeastZero}
use Rattle.law_outcome.proofs.Common.{RunPricesAreWithin, UnitLine, Report, unit_lines, IsRightReport, words_of}
use Rattle.law_outcome.proofs.Common.{WordsHaveNumbersInRange, MOST_BYTES, Asked, CheckAsked, PriceAsked, AuditAsked}
use Rattle.law_outcome.proofs.Common.{SettleAsked, CertifyAsked, price, check, try, bound, fixed, audit, settle}
use Rattle.law_outcome.proofs.Common.{certify, convex, rounds_for, WordFault, PricesFile}
use Rattle.law_outcome.proofs.Common.{MixtureFile, PricesText, PricesValue, MixtureText}
use Rattle.law_outcome.proofs.Common.{MixtureShare, MixtureRule, IsPricesFile, IsPriced, IsMixtureFile, IsCertifiable}
use Rattle.law_outcome.proofs.Common.{AskForPrices, status_of, fault_line, ReportPaymentsMakeUpTheGap, CaseFile}
use Rattle.law_outcome.proofs.Common.{ScheduleFile, ReportFile, TopFault, Words, Read, CaseText, CaseField, PlanText}
use Rattle.law_outcome.proofs.Common.{PlanShape, PlanRule, TooBig, Work, Memory, report_fault, End, Done, Cut, Refused}
use Rattle.law_outcome.proofs.Common.{Reads, bytes_of, IsCase, IsCaseFile, IsPlan, IsPlanFile, IsChecked, IsInput}
use Rattle.law_outcome.proofs.Common.{IsWithinWork, IsReportFile, IsAudit, PlannedCase, command_for, case_and_schedule}
use Rattle.law_outcome.proofs.Common.{IsReadOf, AreReads, HasText, Ends, status_at, is_refusal, IsWritten, IsUnread}
use Rattle.law_outcome.proofs.Common.{HasCause, IsQuiet, IsDecided, word_fault, FollowsFromWords, IsPromised}
use Rattle.law_outcome.proofs.Common.{BytesAreThoseRead, ◌≢◌}
use Rattle.uc_text.specs.Files.{text, value}
use Rattle.uc_case.specs.CaseFiles.{IsCaseOf}
use Rattle.uc_plan.specs.PlanFiles.{IsPlanOf}
use Rattle.hull_fault.specs.declared.fault.FileKind.{FileKind}
use Rattle.plain_lists.specs.declared.limits.TheConstants.{MOST_WORK}

-- ---- a fault by its status

pub status_within : (f : TopFault) → (1 ≤ status_of f) × (status_of f ≤ 10) × ((status_of f ≡ 6) → ⊥)
status_within (Words w) = (omega arith, omega arith, λ e. absurd cc)
status_within (Read file) = (omega arith, omega arith, λ e. absurd cc)
status_within (CaseText f) = (omega arith, omega arith, λ e. absurd cc)
status_within (CaseField f) = (omega arith, omega arith, λ e. absurd cc)
status_within (PlanText f) = (omega arith, omega arith, λ e. absurd cc)
status_within (PlanShape f) = (omega arith, omega arith, λ e. absurd cc)
status_within (PlanRule f) = (omega arith, omega arith, λ e. absurd cc)
status_within (TooBig CaseFile) = (omega arith, omega arith, λ e. absurd cc)
status_within (TooBig ScheduleFile) = (omega arith, omega arith, λ e. absurd cc)
status_within (TooBig ReportFile) = (omega arith, omega arith, λ e. absurd cc)
status_within (TooBig PricesFile) = (omega arith, omega arith, λ e. absurd cc)
status_within (TooBig MixtureFile) = (omega arith, omega arith, λ e. absurd cc)
status_within (Work p u t) = (omega arith, omega arith, λ e. absurd cc)
status_within Memory = (omega arith, omega arith, λ e. absurd cc)
status_within (report_fault c l) = (omega arith, omega arith, λ e. absurd cc)
status_within (PricesText f) = (omega arith, omega arith, λ e. absurd cc)
status_within (PricesValue f) = (omega arith, omega arith, λ e. absurd cc)
status_within (MixtureText f) = (omega arith, omega arith, λ e. absurd cc)
status_within (MixtureShare f) = (omega arith, omega arith, λ e. absurd cc)
status_within (MixtureRule f) = (omega arith, omega arith, λ e. absurd cc)

-- a failed read is the fault of status 2, and want of memory that of status 7
data Sort (f : TopFault) : Type 0 where
  is_read : (file : FileKind) → f ≡ Read file → Sort f
  is_memory : f ≡ Memory → Sort f
  is_other : (status_of f ≡ 2 → ⊥) → (status_of f ≡ 7 → ⊥) → Sort f

sort : (f : TopFault) → Sort f
sort (Words w) = is_other (λ e. absurd cc) (λ e. absurd cc)
sort (Read file) = is_read file refl
sort (CaseText f) = is_other (λ e. absurd cc) (λ e. absurd cc)
sort (CaseField f) = is_other (λ e. absurd cc) (λ e. absurd cc)
sort (PlanText f) = is_other (λ e. absurd cc) (λ e. absurd cc)
sort (PlanShape f) = is_other (λ e. absurd cc) (λ e. absurd cc)
sort (PlanRule f) = is_other (λ e. absurd cc) (λ e. absurd cc)
sort (TooBig CaseFile) = is_other (λ e. absurd cc) (λ e. absurd cc)
sort (TooBig ScheduleFile) = is_other (λ e. absurd cc) (λ e. absurd cc)
sort (TooBig ReportFile) = is_other (λ e. absurd cc) (λ e. absurd cc)
sort (TooBig PricesFile) = is_other (λ e. absurd cc) (λ e. absurd cc)
sort (TooBig MixtureFile) = is_other (λ e. absurd cc) (λ e. absurd cc)
sort (Work p u t) = is_other (λ e. absurd cc) (λ e. absurd cc)
sort Memory = is_memory refl
sort (report_fault c l) = is_other (λ e. absurd cc) (λ e. absurd cc)
sort (PricesText f) = is_other (λ e. absurd cc) (λ e. absurd cc)
sort (PricesValue f) = is_other (λ e. absurd cc) (λ e. absurd cc)
sort (MixtureText f) = is_other (λ e. absurd cc) (λ e. absurd cc)
sort (MixtureShare f) = is_other (λ e. absurd cc) (λ e. absurd cc)
sort (MixtureRule f) = is_other (λ e. absurd cc) (λ e. absurd cc)

-- ---- which faults are due

-- the fault of a read that failed, or one of what the case (3) or the schedule (4) has
abbrev pub IsInputFault : Reads → TopFault → Type 0
IsInputFault reads f =
    ((f ≡ Read CaseFile) × (reads CaseFile ≡ None)) ⊎ ((f ≡ Read ScheduleFile) × (reads ScheduleFile ≡ None)) ⊎
    (3 ≤ status_of f) × (status_of f ≤ 4)

pub same_fault : {X : Type 0} (f g : TopFault) → ◌≡◌ {A = Result X TopFault} (Err f) (Err g) → f ≡ g
same_fault f g e = cc

pub bytes_fault : (file : FileKind) (read : Option (List ℕ)) (f : TopFault) → Err f ≡ bytes_of file read →
    ((f ≡ Read file) × (read ≡ None)) ⊎ (f ≡ TooBig file)
bytes_fault file None f e = inl (cc, refl)
bytes_fault file (Some bytes) f e = inr (long (nat_lt MOST_BYTES _) e)
  where
    long : (b : Bool) → Err f ≡ (if b then Err (TooBig file) else Ok bytes) → f ≡ TooBig file
    long true e = cc
    long false e = absurd cc

case_file_fault : (reads : Reads) (f : TopFault) → IsCaseFile (reads CaseFile) (Err f) → IsInputFault reads f
case_file_fault reads f (Ok bytes, is, (Ok m, reading, e)) = absurd cc
case_file_fault reads f (Ok bytes, is, (Err (text t), reading, e)) = let s : f ≡ CaseText t = cc in
    let n : status_of f ≡ 3 = ap status_of s in inr (inr (omega (arith, n), omega (arith, n)))
case_file_fault reads f (Ok bytes, is, (Err (value t), reading, e)) = let s : f ≡ CaseField t = cc in
    let n : status_of f ≡ 3 = ap status_of s in inr (inr (omega (arith, n), omega (arith, n)))
case_file_fault reads f (Err g, is, e) =
    let h : Err f ≡ bytes_of CaseFile (reads CaseFile) = ap Err (same_fault f g e) ∙ is in
    elim (bytes_fault CaseFile (reads CaseFile) f h) [
      | inl p ↦ inl p
      | inr s ↦ let n : status_of f ≡ 3 = ap status_of s in inr (inr (omega (arith, n), omega (arith, n)))
    ]

plan_file_fault : (m : Market) (reads : Reads) (f : TopFault) → IsPlanFile m (reads ScheduleFile) (Err f) →
    IsInputFault reads f
plan_file_fault m reads f (Ok bytes, is, (Ok p, reading, e)) = absurd cc
plan_file_fault m reads f (Ok bytes, is, (Err (text t), reading, e)) = let s : f ≡ PlanText t = cc in
    let n : status_of f ≡ 4 = ap status_of s in inr (inr (omega (arith, n), omega (arith, n)))
plan_file_fault m reads f (Ok bytes, is, (Err (value t), reading, e)) = let s : f ≡ PlanShape t = cc in
    let n : status_of f ≡ 4 = ap status_of s in inr (inr (omega (arith, n), omega (arith, n)))
plan_file_fault m reads f (Err g, is, e) =
    let h : Err f ≡ bytes_of ScheduleFile (reads ScheduleFile) = ap Err (same_fault f g e) ∙ is in
    elim (bytes_fault ScheduleFile (reads ScheduleFile) f h) [
      | inl p ↦ inr (inl p)
      | inr s ↦ let n : status_of f ≡ 4 = ap status_of s in inr (inr (omega (arith, n), omega (arith, n)))
    ]

pub input_fault : (reads : Reads) (f : TopFault) → IsInput reads (Err f) → IsInputFault reads f
input_fault reads f (Ok m, case_is, (Ok plan, plan_is, (rule, is, first))) =
    let n : status_of f ≡ 4 = ap status_of is in inr (inr (omega (arith, n), omega (arith, n)))
input_fault reads f (Ok m, case_is, (Err g, plan_is, e)) =
    let same : g ≡ f = sym (same_fault f g e) in
    plan_file_fault m reads f (subst (λ (h : TopFault). IsPlanFile m (reads ScheduleFile) (Err h)) same plan_is)
input_fault reads f (Err g, case_is, e) =
    let same : g ≡ f = sym (same_fault f g e) in
    case_file_fault reads f (subst (λ (h : TopFault). IsCaseFile (reads CaseFile) (Err h)) same case_is)

above_work : (b : Bool) (proposals units periods : ℕ) (c : PlannedCase) (f : TopFault) →
    Err f ≡ (if b then Err (Work proposals units periods) else Ok c) → status_of f ≡ 5
above_work true proposals units periods c f e = let s : f ≡ Work proposals units periods = cc in ap status_of s
above_work false proposals units periods c f e = absurd cc

pub work_fault : (proposals : ℕ) (c : PlannedCase) (f : TopFault) → IsWithinWork proposals c (Err f) → status_of f ≡ 5
work_fault proposals c f e = above_work (nat_lt MOST_WORK (proposals * unit_count c.market * c.market.periods))
    proposals (unit_count c.market) c.market.periods c f e

-- the fault of a report's file: of its read, or of status 8
report_file_fault : (read : Option (List ℕ)) (f : TopFault) → IsReportFile read (Err f) →
    ((f ≡ Read ReportFile) × (read ≡ None)) ⊎ (status_of f ≡ 8)
report_file_fault read f (Ok bytes, is, (line, fault, e)) = inr (ap status_of e)
report_file_fault read f (Err g, is, e) =
    elim (bytes_fault ReportFile read f (ap Err (same_fault f g e) ∙ is)) [
      | inl p ↦ inl p
      | inr s ↦ inr (ap status_of s)
    ]

-- and that of an audit: or of the limit of work
pub audit_fault : (reads : Reads) (c : PlannedCase) (f : TopFault) → IsAudit reads c (Err f) →
    ((f ≡ Read ReportFile) × (reads ReportFile ≡ None)) ⊎ ((status_of f ≡ 8) ⊎ (status_of f ≡ 5))
audit_fault reads c f (Ok r, report_is, (Ok left, work, (line, wrong, differs, e))) = inr (inl (ap status_of e))
audit_fault reads c f (Ok r, report_is, (Err g, work, e)) =
    inr (inr (work_fault r.budget c f
    (subst (λ (h : TopFault). IsWithinWork r.budget c (Err h)) (sym (same_fault f g e)) work)))
audit_fault reads c f (Err g, report_is, e) =
    elim (report_file_fault (reads ReportFile) f
    (subst (λ (h : TopFault). IsReportFile (reads ReportFile) (Err h)) (sym (same_fault f g e)) report_is)) [
      | inl p ↦ inl p
      | inr s ↦ inr (inl s)
    ]

-- the fault of a file of prices: of its read, or of status 9
prices_file_fault : (periods : ℕ) (read : Option (List ℕ)) (f : TopFault) → IsPricesFile periods read (Err f) →
    ((f ≡ Read PricesFile) × (read ≡ None)) ⊎ (status_of f ≡ 9)
prices_file_fault periods read f (Ok bytes, is, (Ok π, reading, e)) = absurd cc
prices_file_fault periods read f (Ok bytes, is, (Err (text t), reading, e)) = let s : f ≡ PricesText t = cc in
    inr (ap status_of s)
prices_file_fault periods read f (Ok bytes, is, (Err (value t), reading, e)) = let s : f ≡ PricesValue t = cc in
    inr (ap status_of s)
prices_file_fault periods read f (Err g, is, e) =
    elim (bytes_fault PricesFile read f (ap Err (same_fault f g e) ∙ is)) [
      | inl p ↦ inl p
      | inr s ↦ inr (ap status_of s)
    ]

pub priced_fault : (reads : Reads) (c : PlannedCase) (f : TopFault) → IsPriced reads c (Err f) →
    ((f ≡ Read PricesFile) × (reads PricesFile ≡ None)) ⊎ (status_of f ≡ 9)
priced_fault reads c f (Ok π, file, e) = absurd cc
priced_fault reads c f (Err g, file, e) =
    prices_file_fault c.market.periods (reads PricesFile) f
    (subst (λ (h : TopFault). IsPricesFile c.market.periods (reads PricesFile) (Err h)) (sym (same_fault f g e))
    file)

-- the fault of a file with a mixture: of its read, or of status 10
pub mixture_file_fault : (m : Market) (read : Option (List ℕ)) (f : TopFault) → IsMixtureFile m read (Err f) →
    ((f ≡ Read MixtureFile) × (read ≡ None)) ⊎ (status_of f ≡ 10)
mixture_file_fault m read f (Ok x, shares, (rule, is, first)) = inr (ap status_of is)
mixture_file_fault m read f (Err g, (Ok bytes, is, (Ok x, reading, k)), e) = absurd cc
mixture_file_fault m read f (Err g, (Ok bytes, is, (Err (text t), reading, k)), e) = let s : f ≡ MixtureText t = cc in
    inr (ap status_of s)
mixture_file_fault m read f (Err g, (Ok bytes, is, (Err (value t), reading, k)), e) = let s : f ≡ MixtureShare t = cc in
    inr (ap status_of s)
mixture_file_fault m read f (Err g, (Err h, is, k), e) =
    elim (bytes_fault MixtureFile read f (ap Err (same_fault f g e ∙ same_fault g h k) ∙ is)) [
      | inl p ↦ inl p
      | inr s ↦ inr (ap status_of s)
    ]

-- and that of a certificate: or of its prices
pub certifiable_fault : (reads : Reads) (c : PlannedCase) (f : TopFault) → IsCertifiable reads c (Err f)
    → (((f ≡ Read PricesFile) × (reads PricesFile ≡ None)) ⊎ ((f ≡ Read MixtureFile) × (reads MixtureFile ≡ None))) ⊎
    ((status_of f ≡ 9) ⊎ (status_of f ≡ 10))
certifiable_fault reads c f (Ok d, priced, (Ok x, file, e)) = absurd cc
certifiable_fault reads c f (Ok d, priced, (Err g, file, e)) =
    elim (mixture_file_fault d.market (reads MixtureFile) f
    (subst (λ (h : TopFault). IsMixtureFile d.market (reads MixtureFile) (Err h)) (sym (same_fault f g e)) file)) [
      | inl p ↦ inl (inr p)
      | inr ten ↦ inr (inr ten)
    ]
certifiable_fault reads c f (Err g, priced, e) =
    elim (priced_fault reads c f (subst (λ (h : TopFault). IsPriced reads c (Err h)) (sym (same_fault f g e)) priced)) [
      | inl p ↦ inl (inl p)
      | inr nine ↦ inr (inl nine)
    ]

-- what a fault that is due says of the words
pub data IsDueFault (w : Result Asked WordFault) (reads : Reads) (f : TopFault) : Type 0 where
  unread : (file : FileKind) (name : List ℕ) → f ≡ Read file → (command_for w).name_of file ≡ Some name →
      reads file ≡ None → IsDueFault w reads f
  of_input : 3 ≤ status_of f → status_of f ≤ 4 → IsDueFault w reads f
  of_work : ((a : CheckAsked) → w ≡ Ok (check a) → ⊥) → ((a : SettleAsked) → w ≡ Ok (settle a) → ⊥) →
      ((a : CertifyAsked) → w ≡ Ok (certify a) → ⊥) → status_of f ≡ 5 → IsDueFault w reads f
  of_report : (a : AuditAsked) → w ≡ Ok (audit a) → status_of f ≡ 8 → IsDueFault w reads f
  of_prices : AskForPrices w → status_of f ≡ 9 → IsDueFault w reads f
  of_mixture : (a : CertifyAsked) → w ≡ Ok (certify a) → status_of f ≡ 10 → IsDueFault w reads f
  of_words : (x : WordFault) → f ≡ Words x → word_fault w ≡ Some x → IsDueFault w reads f

pub due_fault : (w : Result Asked WordFault) (reads : Reads) (f : TopFault) → (command_for w).IsDue reads (Err f) →
    IsDueFault w reads f
due_fault (Ok (check a)) reads f due =
    elim (input_fault reads f due) [
      | inl p ↦ unread CaseFile a.case_name p.0 refl p.1
      | inr (inl p) ↦ unread ScheduleFile a.schedule_name p.0 refl p.1
      | inr (inr p) ↦ of_input p.0 p.1
    ]
due_fault (Ok (price a)) reads f (Ok c, input, work) =
    of_work (λ b e. absurd cc) (λ b e. absurd cc) (λ b e. absurd cc) (work_fault a.proposals c f work)
due_fault (Ok (price a)) reads f (Err g, input, e) =
    let same : g ≡ f = sym (same_fault f g e) in
    elim (input_fault reads f (subst (λ (h : TopFault). IsInput reads (Err h)) same input)) [
      | inl p ↦ unread CaseFile a.case_name p.0 refl p.1
      | inr (inl p) ↦ unread ScheduleFile a.schedule_name p.0 refl p.1
      | inr (inr p) ↦ of_input p.0 p.1
    ]
due_fault (Ok (try a)) reads f (Ok c, input, work) =
    of_work (λ b e. absurd cc) (λ b e. absurd cc) (λ b e. absurd cc) (work_fault a.proposals c f work)
due_fault (Ok (try a)) reads f (Err g, made, e) = absurd made
due_fault (Ok (bound a)) reads f (Ok c, input, work) =
    of_work (λ b e. absurd cc) (λ b e. absurd cc) (λ b e. absurd cc) (work_fault a.run.proposals c f work)
due_fault (Ok (bound a)) reads f (Err g, input, e) =
    let same : g ≡ f = sym (same_fault f g e) in
    elim (input_fault reads f (subst (λ (h : TopFault). IsInput reads (Err h)) same input)) [
      | inl p ↦ unread CaseFile a.run.case_name p.0 refl p.1
      | inr (inl p) ↦ unread ScheduleFile a.run.schedule_name p.0 refl p.1
      | inr (inr p) ↦ of_input p.0 p.1
    ]
due_fault (Ok (fixed a)) reads f (Ok c, input, work) =
    of_work (λ b e. absurd cc) (λ b e. absurd cc) (λ b e. absurd cc) (work_fault a.proposals c f work)
due_fault (Ok (fixed a)) reads f (Err g, input, e) =
    let same : g ≡ f = sym (same_fault f g e) in
    elim (input_fault reads f (subst (λ (h : TopFault). IsInput reads (Err h)) same input)) [
      | inl p ↦ unread CaseFile a.case_name p.0 refl p.1
      | inr (inl p) ↦ unread ScheduleFile a.schedule_name p.0 refl p.1
      | inr (inr p) ↦ of_input p.0 p.1
    ]
due_fault (Ok (audit a)) reads f (Ok c, input, audited) =
    elim (audit_fault reads c f audited) [
      | inl p ↦ unread ReportFile a.report_name p.0 refl p.1
      | inr (inl eight) ↦ of_report a refl eight
      | inr (inr five) ↦ of_work (λ b e. absurd cc) (λ b e. absurd cc) (λ b e. absurd cc) five
    ]
due_fault (Ok (audit a)) reads f (Err g, input, e) =
    let same : g ≡ f = sym (same_fault f g e) in
    elim (input_fault reads f (subst (λ (h : TopFault). IsInput reads (Err h)) same input)) [
      | inl p ↦ unread CaseFile a.case_name p.0 refl p.1
      | inr (inl p) ↦ unread ScheduleFile a.schedule_name p.0 refl p.1
      | inr (inr p) ↦ of_input p.0 p.1
    ]
due_fault (Ok (settle a)) reads f (Ok c, input, priced) =
    elim (priced_fault reads c f priced) [
      | inl p ↦ unread PricesFile a.prices_name p.0 refl p.1
      | inr nine ↦ of_prices (inl (a, refl)) nine
    ]
due_fault (Ok (settle a)) reads f (Err g, input, e) =
    let same : g ≡ f = sym (same_fault f g e) in
    elim (input_fault reads f (subst (λ (h : TopFault). IsInput reads (Err h)) same input)) [
      | inl p ↦ unread CaseFile a.case_name p.0 refl p.1
      | inr (inl p) ↦ unread ScheduleFile a.schedule_name p.0 refl p.1
      | inr (inr p) ↦ of_input p.0 p.1
    ]
due_fault (Ok (certify a)) reads f (Ok c, input, certifiable) =
    elim (certifiable_fault reads c f certifiable) [
      | inl (inl p) ↦ unread PricesFile a.names.prices_name p.0 refl p.1
      | inl (inr p) ↦ unread MixtureFile a.mixture_name p.0 refl p.1
      | inr (inl nine) ↦ of_prices (inr (a, refl)) nine
      | inr (inr ten) ↦ of_mixture a refl ten
    ]
due_fault (Ok (certify a)) reads f (Err g, input, e) =
    let same : g ≡ f = sym (same_fault f g e) in
    elim (input_fault reads f (subst (λ (h : TopFault). IsInput reads (Err h)) same input)) [
      | inl p ↦ unread CaseFile a.names.case_name p.0 refl p.1
      | inr (inl p) ↦ unread ScheduleFile a.names.schedule_name p.0 refl p.1
      | inr (inr p) ↦ of_input p.0 p.1
    ]
due_fault (Ok (convex a)) reads f (Ok c, input, work) =
    of_work (λ b e. absurd cc) (λ b e. absurd cc) (λ b e. absurd cc) (work_fault (rounds_for a.rounds c.market)
    c f work)
due_fault (Ok (convex a)) reads f (Err g, input, e) =
    let same : g ≡ f = sym (same_fault f g e) in
    elim (input_fault reads f (subst (λ (h : TopFault). IsInput reads (Err h)) same input)) [
      | inl p ↦ unread CaseFile a.case_name p.0 refl p.1
      | inr (inl p) ↦ unread ScheduleFile a.schedule_name p.0 refl p.1
      | inr (inr p) ↦ of_input p.0 p.1
    ]
due_fault (Err x) reads f due = of_words x (same_fault f _ due) refl

-- ---- the cause of each status

not_refusal : (n k : ℕ) → n ≡ k → is_refusal k ≡ false → IsTrue (is_refusal n) → ⊥
not_refusal n k e never told = let same : is_refusal n ≡ is_refusal k = ap is_refusal e in cc

module _ (w : Result Asked WordFault) (told : List ℕ → Option (List ℕ)) (rose gained short : List ℕ → Type 0) where
  -- a file whose read failed has a name, whose count rose
  rose_of : (reads : Reads) → AreReads told rose (command_for w).name_of reads → (file : FileKind) (name : List ℕ) →
      (command_for w).name_of file ≡ Some name → reads file ≡ None → rose name
  rose_of reads are file name named none =
      let all = subst (λ (o : Option (List ℕ)). IfSome o (λ n. IsReadOf (told n) (rose n) (reads file))) named
      (are file) in
      subst (IsReadOf (told name) (rose name)) none all

  -- the fault of status 7 is want of memory
  starved : (f : TopFault) → IsWritten (command_for w) told rose gained short f → status_of f ≡ 7 → Sort f →
      IsWritten (command_for w) told rose gained short Memory
  starved f lines z (is_read file e) = let s : status_of f ≡ 2 = ap status_of e in absurd (omega (arith, z, s))
  starved f lines z (is_memory e) = subst (IsWritten (command_for w) told rose gained short) e lines
  starved f lines z (is_other two seven) = absurd (seven z)

  -- the fault of status 2 is a failed read
  read_failed : (reads : Reads) (f : TopFault) → AreReads told rose (command_for w).name_of reads →
      IsWritten (command_for w) told rose gained short f → status_of f ≡ 2
      → (command_for w).IsDue reads (Err f) → IsDueFault w reads f →
      IsUnread (command_for w) told rose gained short reads
  read_failed reads f are lines z due (unread file name is named none) = (
    file,
    name,
    named,
    rose_of reads are file name named none,
    subst (λ (g : TopFault). (command_for w).IsDue reads (Err g)) is due,
    subst (IsWritten (command_for w) told rose gained short) is lines,
  )
  read_failed reads f are lines z due (of_input low high) = absurd (omega (arith, z, low))
  read_failed reads f are lines z due (of_work other more third five) = absurd (omega (arith, z, five))
  read_failed reads f are lines z due (of_report a same eight) = absurd (omega (arith, z, eight))
  read_failed reads f are lines z due (of_prices asked nine) = absurd (omega (arith, z, nine))
  read_failed reads f are lines z due (of_mixture a same ten) = absurd (omega (arith, z, ten))
  read_failed reads f are lines z due (of_words x is faulty) = let s : status_of f ≡ 1 = ap status_of is in
      absurd (omega (arith, z, s))

  pub has_cause : (n : ℕ) (reads : Reads) (e : End) → AreReads told rose (command_for w).name_of reads →
      Ends (command_for w) reads gained short e → n ≡ status_at e → HasCause (command_for w) told rose gained short n
  has_cause n reads Done are ends is = record {
    known = omega (arith, is);
    done = λ z. (reads, are, ends);
    cut = λ z. absurd (omega (arith, is, z));
    refused = λ z. absurd (not_refusal n 0 is refl z);
    unread = λ z. absurd (omega (arith, is, z));
    memory = λ z. absurd (omega (arith, is, z));
  }
  has_cause n reads Cut are ends is = record {
    known = omega (arith, is);
    done = λ z. absurd (omega (arith, is, z));
    cut = λ z. (reads, are, ends);
    refused = λ z. absurd (not_refusal n 6 is refl z);
    unread = λ z. absurd (omega (arith, is, z));
    memory = λ z. absurd (omega (arith, is, z));
  }
  has_cause n reads (Refused f) are (due, lines) is =
      let within = status_within f in
      record {
        known = omega (arith, is, within.1);
        done = λ z. absurd (omega (arith, is, z, within.0));
        cut = λ z. absurd (within.2 (sym is ∙ z));
        refused = λ z. elim due [
          | inl d ↦ (reads, are, (f, d, is, lines))
          | inr m ↦ absurd (not_refusal n 7 (is ∙ ap status_of m) refl z)
        ];
        unread = λ z. elim due [
          | inl d ↦ (reads, are, read_failed reads f are lines (sym is ∙ z) d (due_fault w reads f d))
          | inr m ↦ let s : status_of f ≡ 7 = ap status_of m in absurd (omega (arith, is, z, s))
        ];
        memory = λ z. starved f lines (sym is ∙ z) (sort f);
      }

  -- ---- completeness

  -- where no count rose, no read failed
  all_read : (reads : Reads) → AreReads told rose (command_for w).name_of reads →
      IsQuiet (command_for w) told rose gained short → (file : FileKind) →
      IfSome ((command_for w).name_of file) (λ name. IsSome (reads file))
  all_read reads are quiet file = each ((command_for w).name_of file) (reads file) (are file) (quiet.shelf file)
    where
      each : (o : Option (List ℕ)) (read : Option (List ℕ)) → IfSome o (λ name. IsReadOf (told name) (rose name) read) →
          IfSome o (λ name. ¬ rose name) → IfSome o (λ name. IsSome read)
      each None read p q = tt
      each (Some name) None p q = absurd (q p)
      each (Some name) (Some bytes) p q = refl

  pub is_decided : ((reads : Reads) (due other : Result PlannedCase TopFault) → (command_for w).IsDue reads due →
      (command_for w).IsDue reads other → due ≡ other) → (n : ℕ) (reads : Reads) (e : End) →
      AreReads told rose (command_for w).name_of reads → IsQuiet (command_for w) told rose gained short →
      Ends (command_for w) reads gained short e → n ≡ status_at e → IsDecided (command_for w) n reads
  is_decided one n reads Done are quiet (i, due, shown, right, ends) is = record {
    read = all_read reads are quiet;
    accepted = λ j also. inl is;
    refused = λ f also. let e = one reads (Ok i) (Err f) due also in absurd cc;
  }
  is_decided one n reads Cut are quiet (i, due, shown, right, fell) is = absurd (quiet.sink shown fell)
  is_decided one n reads (Refused f) are quiet (inl due, lines) is = record {
    read = all_read reads are quiet;
    accepted = λ j also. let e = one reads (Err f) (Ok j) due also in absurd cc;
    refused = λ g also. inl (is ∙ ap status_of (same_fault f g (one reads (Err f) (Err g) due also)));
  }
  is_decided one n reads (Refused f) are quiet (inr m, lines) is =
      let s : n ≡ 7 = is ∙ ap status_of m in
      record { read = all_read reads are quiet; accepted = λ j also. inr s; refused = λ g also. inr s }

-- ---- what the words alone say

refused_words : (w : Result Asked WordFault) (f : WordFault) (reads : Reads) (due : Result PlannedCase TopFault) →
    word_fault w ≡ Some f → (command_for w).IsDue reads due → due ≡ Err (Words f)
refused_words (Ok a) f reads due e is = absurd cc
refused_words (Err g) f reads due e is = cc

module _ (w : Result Asked WordFault) (gained short : List ℕ → Type 0) where
  abbrev Lines : TopFault → Type 0
  Lines f = gained (fault_line f) ⊎ short (fault_line f)

  at_1_of : (reads : Reads) (f : TopFault) → Lines f → status_of f ≡ 1 → IsDueFault w reads f →
      (x : WordFault) × (word_fault w ≡ Some x) × Lines (Words x)
  at_1_of reads f lines z (unread file name is named none) = let s : status_of f ≡ 2 = ap status_of is in
      absurd (omega (arith, z, s))
  at_1_of reads f lines z (of_input low high) = absurd (omega (arith, z, low))
  at_1_of reads f lines z (of_work other more third five) = absurd (omega (arith, z, five))
  at_1_of reads f lines z (of_report a same eight) = absurd (omega (arith, z, eight))
  at_1_of reads f lines z (of_prices asked nine) = absurd (omega (arith, z, nine))
  at_1_of reads f lines z (of_mixture a same ten) = absurd (omega (arith, z, ten))
  at_1_of reads f lines z (of_words x is faulty) = (x, faulty, subst Lines is lines)

  at_5_of : (reads : Reads) (f : TopFault) → status_of f ≡ 5 → IsDueFault w reads f →
      ((a : CheckAsked) → w ≡ Ok (check a) → ⊥) × ((a : SettleAsked) → w ≡ Ok (settle a) → ⊥)
      × ((a : CertifyAsked) → w ≡ Ok (certify a) → ⊥)
  at_5_of reads f z (unread file name is named none) = let s : status_of f ≡ 2 = ap status_of is in
      absurd (omega (arith, z, s))
  at_5_of reads f z (of_input low high) = absurd (omega (arith, z, high))
  at_5_of reads f z (of_work other more third five) = (other, more, third)
  at_5_of reads f z (of_report a same eight) = absurd (omega (arith, z, eight))
  at_5_of reads f z (of_prices asked nine) = absurd (omega (arith, z, nine))
  at_5_of reads f z (of_mixture a same ten) = absurd (omega (arith, z, ten))
  at_5_of reads f z (of_words x is faulty) = let s : status_of f ≡ 1 = ap status_of is in absurd (omega (arith, z, s))

  pub at_8_of : (reads : Reads) (f : TopFault) → status_of f ≡ 8 → IsDueFault w reads f →
      (a : AuditAsked) × (w ≡ Ok (audit a))
  at_8_of reads f z (unread file name is named none) = let s : status_of f ≡ 2 = ap status_of is in
      absurd (omega (arith, z, s))
  at_8_of reads f z (of_input low high) = absurd (omega (arith, z, high))
  at_8_of reads f z (of_work other more third five) = absurd (omega (arith, z, five))
  at_8_of reads f z (of_report a same eight) = (a, same)
  at_8_of reads f z (of_prices asked nine) = absurd (omega (arith, z, nine))
  at_8_of reads f z (of_mixture a same ten) = absurd (omega (arith, z, ten))
  at_8_of reads f z (of_words x is faulty) = let s : status_of f ≡ 1 = ap status_of is in absurd (omega (arith, z, s))

  at_9_of : (reads : Reads) (f : TopFault) → status_of f ≡ 9 → IsDueFault w reads f → AskForPrices w
  at_9_of reads f z (unread file name is named none) = let s : status_of f ≡ 2 = ap status_of is in
      absurd (omega (arith, z, s))
  at_9_of reads f z (of_input low high) = absurd (omega (arith, z, high))
  at_9_of reads f z (of_work other more third five) = absurd (omega (arith, z, five))
  at_9_of reads f z (of_report a same eight) = absurd (omega (arith, z, eight))
  at_9_of reads f z (of_prices asked nine) = asked
  at_9_of reads f z (of_mixture a same ten) = absurd (omega (arith, z, ten))
  at_9_of reads f z (of_words x is faulty) = let s : status_of f ≡ 1 = ap status_of is in absurd (omega (arith, z, s))

  at_10_of : (reads : Reads) (f : TopFault) → status_of f ≡ 10 → IsDueFault w reads f →
      (a : CertifyAsked) × (w ≡ Ok (certify a))
  at_10_of reads f z (unread file name is named none) = let s : status_of f ≡ 2 = ap status_of is in
      absurd (omega (arith, z, s))
  at_10_of reads f z (of_input low high) = absurd (omega (arith, z, high))
  at_10_of reads f z (of_work other more third five) = absurd (omega (arith, z, five))
  at_10_of reads f z (of_report a same eight) = absurd (omega (arith, z, eight))
  at_10_of reads f z (of_prices asked nine) = absurd (omega (arith, z, nine))
  at_10_of reads f z (of_mixture a same ten) = (a, same)
  at_10_of reads f z (of_words x is faulty) = let s : status_of f ≡ 1 = ap status_of is in absurd (omega (arith, z, s))

  -- a status that says nothing of the words but whether they are faulty
  at_no_other : (n : ℕ) → n ≢ 1 → n ≢ 5 → n ≢ 8 → n ≢ 9 → n ≢ 10 →
      ((x : WordFault) → word_fault w ≡ Some x → (n ≡ 1) ⊎ (n ≡ 7)) → FollowsFromWords w gained short n
  at_no_other n one five eight nine ten faulty = record {
    faulty = faulty;
    at_1 = λ z. absurd (one z);
    check_at_5 = λ a e. five;
    settle_at_5 = λ a e. five;
    certify_at_5 = λ a e. five;
    at_8 = λ z. absurd (eight z);
    at_9 = λ z. absurd (nine z);
    at_10 = λ z. absurd (ten z);
  }

  pub words_follow : (n : ℕ) (reads : Reads) (e : End) → Ends (command_for w) reads gained short e → n ≡ status_at e →
      FollowsFromWords w gained short n
  words_follow n reads Done (i, due, shown, right, ends) is =
      at_no_other n (λ z. omega (arith, is, z)) (λ z. omega (arith, is, z)) (λ z. omega (arith, is, z))
      (λ z. omega (arith, is, z)) (λ z. omega (arith, is, z))
      (λ x e. let h = refused_words w x reads (Ok i) e due in absurd cc)
  words_follow n reads Cut (i, due, shown, right, ends) is =
      at_no_other n (λ z. omega (arith, is, z)) (λ z. omega (arith, is, z)) (λ z. omega (arith, is, z))
      (λ z. omega (arith, is, z)) (λ z. omega (arith, is, z))
      (λ x e. let h = refused_words w x reads (Ok i) e due in absurd cc)
  words_follow n reads (Refused f) (inl due, lines) is =
      let told = due_fault w reads f due in
      record {
        faulty = λ x e. inl (is ∙ ap status_of (same_fault f (Words x) (refused_words w x reads (Err f) e due)));
        at_1 = λ z. at_1_of reads f lines (sym is ∙ z) told;
        check_at_5 = λ a e z. (at_5_of reads f (sym is ∙ z) told).0 a e;
        settle_at_5 = λ a e z. (at_5_of reads f (sym is ∙ z) told).1 a e;
        certify_at_5 = λ a e z. (at_5_of reads f (sym is ∙ z) told).2 a e;
        at_8 = λ z. at_8_of reads f (sym is ∙ z) told;
        at_9 = λ z. at_9_of reads f (sym is ∙ z) told;
        at_10 = λ z. at_10_of reads f (sym is ∙ z) told;
      }
  words_follow n reads (Refused f) (inr m, lines) is =
      let s : n ≡ 7 = is ∙ ap status_of m in
      at_no_other n (λ z. omega (arith, s, z)) (λ z. omega (arith, s, z)) (λ z. omega (arith, s, z))
      (λ z. omega (arith, s, z)) (λ z. omega (arith, s, z)) (λ x e. inr s)

-- ---- what is accepted

checked_is_feasible : (m : Market) (plan : List Schedule) (i : PlannedCase) → IsChecked m plan (Ok i) →
    IsFeasiblePlan i.market i.plan × (i.cost ≡ plan_cost i.market i.plan)
checked_is_feasible m plan i (feasible, none, is) =
    subst (λ (c : PlannedCase). IsFeasiblePlan c.market c.plan × (c.cost ≡ plan_cost c.market c.plan)) (sym is)
    (feasible, refl)

pub input_is_feasible : (reads : Reads) (i : PlannedCase) → IsInput reads (Ok i) →
    IsFeasiblePlan i.market i.plan × (i.cost ≡ plan_cost i.market i.plan)
input_is_feasible reads i (Ok m, case_is, (Ok plan, plan_is, checked)) = checked_is_feasible m plan i checked
input_is_feasible reads i (Ok m, case_is, (Err g, plan_is, e)) = absurd cc
input_is_feasible reads i (Err g, case_is, e) = absurd cc

below_work : (b : Bool) (f : TopFault) (c i : PlannedCase) → Ok i ≡ (if b then Err f else Ok c) → c ≡ i
below_work true f c i e = absurd cc
below_work false f c i e = cc

pub same_input : (proposals : ℕ) (c i : PlannedCase) → IsWithinWork proposals c (Ok i) → c ≡ i
same_input proposals c i e =
    below_work (nat_lt MOST_WORK (proposals * unit_count c.market * c.market.periods))
    (Work proposals (unit_count c.market) c.market.periods) c i e

pub accepted_is_feasible : (w : Result Asked WordFault) (reads : Reads) (i : PlannedCase) →
    (command_for w).IsDue reads (Ok i) → IsFeasiblePlan i.market i.plan × (i.cost ≡ plan_cost i.market i.plan)
accepted_is_feasible (Ok (check a)) reads i due = input_is_feasible reads i due
accepted_is_feasible (Ok (price a)) reads i (Ok c, input, work) =
    subst (λ (c : PlannedCase). IsFeasiblePlan c.market c.plan × (c.cost ≡ plan_cost c.market c.plan))
    (same_input a.proposals c i work) (input_is_feasible reads c input)
accepted_is_feasible (Ok (price a)) reads i (Err g, input, e) = absurd cc
accepted_is_feasible (Ok (try a)) reads i (Ok c, (feasible, is), work) =
    subst (λ (c : PlannedCase). IsFeasiblePlan c.market c.plan × (c.cost ≡ plan_cost c.market c.plan))
    (same_input a.proposals c i work)
    (feasible, subst (λ (c : PlannedCase). c.cost ≡ plan_cost c.market c.plan) (sym is) refl)
accepted_is_feasible (Ok (try a)) reads i (Err g, made, e) = absurd made
accepted_is_feasible (Ok (bound a)) reads i (Ok c, input, work) =
    subst (λ (c : PlannedCase). IsFeasiblePlan c.market c.plan × (c.cost ≡ plan_cost c.market c.plan))
    (same_input a.run.proposals c i work) (input_is_feasible reads c input)
accepted_is_feasible (Ok (bound a)) reads i (Err g, input, e) = absurd cc
accepted_is_feasible (Ok (fixed a)) reads i (Ok c, input, work) =
    subst (λ (c : PlannedCase). IsFeasiblePlan c.market c.plan × (c.cost ≡ plan_cost c.market c.plan))
    (same_input a.proposals c i work) (input_is_feasible reads c input)
accepted_is_feasible (Ok (fixed a)) reads i (Err g, input, e) = absurd cc
accepted_is_feasible (Ok (audit a)) reads i (Ok c, input, (Ok r, report_is, (Ok left, work, (right, same)))) =
    subst (λ (c : PlannedCase). IsFeasiblePlan c.market c.plan × (c.cost ≡ plan_cost c.market c.plan))
    (same_input r.budget c left work ∙ sym same) (input_is_feasible reads c input)
accepted_is_feasible (Ok (audit a)) reads i (Ok c, input, (Ok r, report_is, (Err g, work, e))) = absurd cc
accepted_is_feasible (Ok (audit a)) reads i (Ok c, input, (Err g, report_is, e)) = absurd cc
accepted_is_feasible (Ok (audit a)) reads i (Err g, input, e) = absurd cc
accepted_is_feasible (Ok (settle a)) reads i (Ok c, input, (Ok π, file, e)) =
    let same : c ≡ i = cc in
    subst (λ (c : PlannedCase). IsFeasiblePlan c.market c.plan × (c.cost ≡ plan_cost c.market c.plan)) same
    (input_is_feasible reads c input)
accepted_is_feasible (Ok (settle a)) reads i (Ok c, input, (Err g, file, e)) = absurd cc
accepted_is_feasible (Ok (settle a)) reads i (Err g, input, e) = absurd cc
accepted_is_feasible (Ok (certify a)) reads i (Ok c, input, (Ok d, (Ok π, prices, k), (Ok x, file, e))) =
    let same : c ≡ i = cc in
    subst (λ (c : PlannedCase). IsFeasiblePlan c.market c.plan × (c.cost ≡ plan_cost c.market c.plan)) same
    (input_is_feasible reads c input)
accepted_is_feasible (Ok (certify a)) reads i (Ok c, input, (Ok d, (Err g, prices, k), (Ok x, file, e))) = absurd cc
accepted_is_feasible (Ok (certify a)) reads i (Ok c, input, (Ok d, priced, (Err g, file, e))) = absurd cc
accepted_is_feasible (Ok (certify a)) reads i (Ok c, input, (Err g, priced, e)) = absurd cc
accepted_is_feasible (Ok (certify a)) reads i (Err g, input, e) = absurd cc
accepted_is_feasible (Ok (convex a)) reads i (Ok c, input, work) =
    subst (λ (c : PlannedCase). IsFeasiblePlan c.market c.plan × (c.cost ≡ plan_cost c.market c.plan))
    (same_input (rounds_for a.rounds c.market) c i work) (input_is_feasible reads c input)
accepted_is_feasible (Ok (convex a)) reads i (Err g, input, e) = absurd cc
accepted_is_feasible (Err f) reads i due = absurd cc

-- ---- the promise of a report

pub case_found : (m : Market) (bytes : List ℕ) → IsCase bytes (Ok m) → IsCaseOf bytes (Ok m)
case_found m bytes (Ok n, is, e) = let same : n ≡ m = cc in subst (λ (x : Market). IsCaseOf bytes (Ok x)) same is
case_found m bytes (Err (text f), is, e) = absurd cc
case_found m bytes (Err (value f), is, e) = absurd cc

plan_found : (m : Market) (plan : List Schedule) (bytes : List ℕ) → IsPlan m bytes (Ok plan) →
    IsPlanOf m bytes (Ok plan)
plan_found m plan bytes (Ok p, is, e) = let same : p ≡ plan = cc in
    subst (λ (x : List Schedule). IsPlanOf m bytes (Ok x)) same is
plan_found m plan bytes (Err (text f), is, e) = absurd cc
plan_found m plan bytes (Err (value f), is, e) = absurd cc

-- the case and the schedule of an accepted input, with their bytes
pub record InputParts (reads : Reads) (c : PlannedCase) : Type 0 where
  pub case_bytes : List ℕ
  pub case_read : reads CaseFile ≡ Some case_bytes
  pub is_case : IsCaseOf case_bytes (Ok c.market)
  pub plan_bytes : List ℕ
  pub plan_read : reads ScheduleFile ≡ Some plan_bytes
  pub is_plan : IsPlanOf c.market plan_bytes (Ok c.plan)
  pub feasible : IsFeasiblePlan c.market c.plan

planned_parts : BytesAreThoseRead → (reads : Reads) (m : Market) (plan : List Schedule) (c : PlannedCase) →
    IsCaseFile (reads CaseFile) (Ok m) → IsPlanFile m (reads ScheduleFile) (Ok plan) → IsChecked m plan (Ok c) →
    InputParts reads c
planned_parts got reads m plan c (Ok bytes, is_bytes, case_is) (Ok later, is_later, plan_is) (feasible, none, is) =
    subst (InputParts reads) (sym is) (record {
      case_bytes = bytes;
      case_read = got CaseFile (reads CaseFile) bytes is_bytes;
      is_case = case_found m bytes case_is;
      plan_bytes = later;
      plan_read = got ScheduleFile (reads ScheduleFile) later is_later;
      is_plan = plan_found m plan later plan_is;
      feasible = feasible;
    })
planned_parts got reads m plan c (Ok bytes, is_bytes, case_is) (Err g, is_later, e) checked = absurd cc
planned_parts got reads m plan c (Err g, is_bytes, e) plan_is checked = absurd cc

pub input_parts : BytesAreThoseRead → (reads : Reads) (c : PlannedCase) → IsInput reads (Ok c) → InputParts reads c
input_parts got reads c (Ok m, case_is, (Ok plan, plan_is, checked)) =
    planned_parts got reads m plan c case_is plan_is checked
input_parts got reads c (Ok m, case_is, (Err g, plan_is, e)) = absurd cc
input_parts got reads c (Err g, case_is, e) = absurd cc

price_parts : BytesAreThoseRead → (a : PriceAsked) (reads : Reads) (i : PlannedCase) →
    (command_for (Ok (price a))).IsDue reads (Ok i) → InputParts reads i
price_parts got a reads i (Ok c, input, work) =
    subst (InputParts reads) (same_input a.proposals c i work) (input_parts got reads c input)
price_parts got a reads i (Err g, input, e) = absurd cc

-- what each unit of a right report is paid, and what the surplus is worth
pub record PaysNoneBack (r : Report) : Type 0 where
  pub payments : All (λ (l : UnitLine). pos 0 ≤ℤ l.payment) (unit_lines r)
  pub surplus : pos 0 ≤ℤ r.surplus

pub pays_none_back : RunPricesAreWithin → PaymentsAreAtLeastZero →
    (m : Market) (plan : List Schedule) (budget ahead : ℕ) (r : Report) → 1 ≤ ahead → IsFeasiblePlan m plan →
    IsRightReport m plan budget ahead r → PaysNoneBack r
pays_none_back priced nothing m plan budget ahead r some feasible right =
    let prices = priced m (plan_cost m plan) budget ahead r.rows (r.chosen - 1) right.row some right.run
    right.is_chosen in
    let length = prices.reserve_horizon in
    let low : (k : ℕ) → k < m.periods → pos 0 ≤ℤ int_at right.row.prices.reserve k =
    λ k lt. (prices.reserve k (pos 0) (omega (arith, lt, length))).at_least in
    let paid = nothing m plan right.row.prices _ _ r.surplus r.payments feasible
    (record { horizon = prices.horizon; reserve = low }) right.settled in
    let payment : UnitLine → ℤ = λ l. l.payment in
    record {
      payments = λ k l lt.
          subst (λ (x : ℤ). pos 0 ≤ℤ x) (get_or-map payment (unit_lines r) k l (payment l) lt)
          (paid.0 k (payment l) (let count = length-map (unit_lines r) payment in omega (arith, lt, count)));
      surplus = paid.1;
    }

module _ (words_have_sizes : WordsHaveNumbersInRange) (got : BytesAreThoseRead) (gap : ReportPaymentsMakeUpTheGap)
    (priced : RunPricesAreWithin) (nothing : PaymentsAreAtLeastZero) (a : PriceAsked) (told : List ℕ → Option (List ℕ))
    (rose gained short : List ℕ → Type 0) where
  promised : (reads : Reads) → 1 ≤ a.ahead → AreReads told rose (case_and_schedule a.case_name a.schedule_name) reads →
      HasText (command_for (Ok (price a))) reads gained → IsPromised a told gained
  promised reads some are (i, due, shown, (r, right, is), printed) =
      let parts = price_parts got a reads i due in
      let made_up = gap i.market i.plan a.proposals a.ahead r parts.feasible right in
      let paid = pays_none_back priced nothing i.market i.plan a.proposals a.ahead r some parts.feasible right in
      record {
        case_bytes = parts.case_bytes;
        case_told = subst (IsReadOf (told a.case_name) (rose a.case_name)) parts.case_read (are CaseFile);
        schedule_bytes = parts.plan_bytes;
        schedule_told = subst (IsReadOf (told a.schedule_name) (rose a.schedule_name)) parts.plan_read
            (are ScheduleFile);
        market = i.market;
        is_case = parts.is_case;
        plan = i.plan;
        is_plan = parts.is_plan;
        feasible = parts.feasible;
        report = r;
        right = right;
        printed = subst gained is printed;
        made_up = rw right.cost_is at made_up;
        gap = rw right.cost_is at right.gap_is;
        payments_from_0 = paid.payments;
        surplus_from_0 = paid.surplus;
      }

  pub promised_at_0 : (words : List (List ℕ)) (n : ℕ) (reads : Reads) (e : End) →
      AreReads told rose (command_for (words_of words)).name_of reads →
      Ends (command_for (words_of words)) reads gained short e → n ≡ status_at e
      → words_of words ≡ Ok (price a) → n ≡ 0 → IsPromised a told gained
  promised_at_0 words n reads Done are ends is same z =
      promised reads (words_have_sizes words (price a) same).ahead_in.at_least
      (subst (λ (v : Result Asked WordFault). AreReads told rose (command_for v).name_of reads) same are)
      (subst (λ (v : Result Asked WordFault). HasText (command_for v) reads gained) same ends)
  promised_at_0 words n reads Cut are ends is same z = absurd (omega (arith, is, z))
  promised_at_0 words n reads (Refused f) are ends is same z = absurd (omega (arith, is, z, (status_within f).0))
