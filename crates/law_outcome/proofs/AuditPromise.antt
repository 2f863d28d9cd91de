-- What is promised of an audit.
use Rattle.law_outcome.proofs.Common.{ReportCode, OutOfForm, Wrong, report_number, ◌≡◌, ℕ, ◌<◌, ◌⊎◌, inl, inr, Bool}
use Rattle.law_outcome.proofs.Common.{true, false, List, [], ◌∷◌, Option, None, Some, Result, Ok, Err, refl, sym, ap}
use Rattle.law_outcome.proofs.Common.{◌∙◌, subst, arith, length, nat_lt, if◌then◌else◌, ltb-true, MOST_BYTES, Asked}
use Rattle.law_outcome.proofs.Common.{AuditAsked, audit, WordFault, status_of, fault_line, IsFlatLine, HasForm}
use Rattle.law_outcome.proofs.Common.{TextDeterminesReport, RightReportHasForm, ReportPaymentsMakeUpTheGap}
use Rattle.law_outcome.proofs.Common.{RunPricesAreWithin, PaymentsAreAtLeastZero, UnitLine, Report, report_text}
use Rattle.law_outcome.proofs.Common.{CaseFile}
use Rattle.law_outcome.proofs.Common.{ScheduleFile, ReportFile, TopFault, TooBig, Unfit, End, Done, Cut, Refused, Reads}
use Rattle.law_outcome.proofs.Common.{bytes_of, IsInput, IsWithinWork, IsReportFile, IsAudit, PlannedCase, command_for}
use Rattle.law_outcome.proofs.Common.{IsReadOf, AreReads, with_report, HasText, Ends, status_at, OverReads}
use Rattle.law_outcome.proofs.Common.{IsAuditPromised, IsWrongAt, IsAuditRefused, BytesAreThoseRead}
use Rattle.law_outcome.proofs.Common.{ReportBytesAreItsText}
use Rattle.std.specs.List.{AllByRecursion}
use Rattle.std.proofs.lemmas.List.Elements.{All-from_recursion}
use Rattle.right_report.specs.RightReport.{IsRightReport}
use Rattle.report_read.specs.Bounds.{IsOtherLine, IsReport}
use Rattle.report_read.specs.Faults.{IsFault}
use Rattle.report_compare.specs.Right.{DiffersFromRight}
use Rattle.law_parts.specs.AuditLaws.{PrintedReportsAreInForm}
use Rattle.law_outcome.proofs.OutcomeLaws.{pays_none_back, status_within, same_fault, bytes_fault, input_fault}
use Rattle.law_outcome.proofs.OutcomeLaws.{work_fault, same_input, InputParts, input_parts}

-- ---- a report within the bounds of reading

pub is_within : (read : Option (List ℕ)) (r : Report) → IsReportFile read (Ok r) → IsReport r
is_within read r (Ok bytes, is, (bounds, text)) = bounds
is_within read r (Err f, is, e) = absurd cc

flat_lines : (periods : ℕ) (ls : List UnitLine) → AllByRecursion (IsOtherLine periods) ls → AllByRecursion IsFlatLine ls
flat_lines periods [] h = tt
flat_lines periods (l ∷ ls) h = (h.0.flat, flat_lines periods ls h.1)

-- a report within the bounds of reading has a form that its text tells
pub within_has_form : (r : Report) → IsReport r → HasForm r
within_has_form r h = record {
  renewable = All-from_recursion IsFlatLine r.renewable (flat_lines r.periods r.renewable h.renewable);
  bids = All-from_recursion IsFlatLine r.bids (flat_lines r.periods r.bids h.bids);
}

-- ---- the promise

module _ (got : BytesAreThoseRead) (text_read : ReportBytesAreItsText) (gap : ReportPaymentsMakeUpTheGap)
    (priced : RunPricesAreWithin) (nothing : PaymentsAreAtLeastZero) (determined : TextDeterminesReport)
    (has_form : RightReportHasForm) (a : AuditAsked) (told : List ℕ → Option (List ℕ))
    (rose gained : List ℕ → Type 0) where
  audited_parts : (reads : Reads) (i : PlannedCase) → (command_for (Ok (audit a))).IsDue reads (Ok i) →
      InputParts reads i
  audited_parts reads i (Ok c, input, (Ok r, file, (Ok left, work, (right, same)))) =
      subst (InputParts reads) (same_input r.budget c left work ∙ sym same) (input_parts got reads c input)
  audited_parts reads i (Ok c, input, (Ok r, file, (Err g, work, e))) = absurd cc
  audited_parts reads i (Ok c, input, (Err g, file, e)) = absurd cc
  audited_parts reads i (Err g, input, e) = absurd cc

  -- the report that was read is within the bounds of reading
  audited_within : (reads : Reads) (i : PlannedCase) (r : Report) → (command_for (Ok (audit a))).IsDue reads (Ok i) →
      reads ReportFile ≡ Some (report_text r) → IsRightReport i.market i.plan r.budget r.ahead r → IsReport r
  audited_within reads i r (Ok c, input, (Ok s, file, (Ok left, work, judged))) read right =
      let bounds = is_within (reads ReportFile) s file in
      let both : Some (report_text r) ≡ Some (report_text s) = sym read ∙ text_read (reads ReportFile) s file in
      let text : report_text r ≡ report_text s = cc in
      let same = determined r s (has_form i.market i.plan r.budget r.ahead r right) (within_has_form s bounds) text in
      subst IsReport (sym same) bounds
  audited_within reads i r (Ok c, input, (Ok s, file, (Err g, work, e))) read right = absurd cc
  audited_within reads i r (Ok c, input, (Err g, file, e)) read right = absurd cc
  audited_within reads i r (Err g, input, e) read right = absurd cc

  pub audit_promised : (reads : Reads) → AreReads told rose (with_report a.case_name a.schedule_name a.report_name)
      reads → HasText (command_for (Ok (audit a))) reads gained → IsAuditPromised a told gained
  audit_promised reads are (i, due, shown, (r, read, right, is), printed) =
      let parts = audited_parts reads i due in
      let made_up = gap i.market i.plan r.budget r.ahead r parts.feasible right in
      let bounds = audited_within reads i r due read right in
      let paid = pays_none_back priced nothing i.market i.plan r.budget r.ahead r bounds.ahead_at_least parts.feasible
      right in
      record {
        case_bytes = parts.case_bytes;
        case_told = subst (IsReadOf (told a.case_name) (rose a.case_name)) parts.case_read (are CaseFile);
        schedule_bytes = parts.plan_bytes;
        schedule_told = subst (IsReadOf (told a.schedule_name) (rose a.schedule_name)) parts.plan_read
            (are ScheduleFile);
        report_bytes = report_text r;
        report_told = subst (IsReadOf (told a.report_name) (rose a.report_name)) read (are ReportFile);
        market = i.market;
        is_case = parts.is_case;
        plan = i.plan;
        is_plan = parts.is_plan;
        feasible = parts.feasible;
        report = r;
        bounds = bounds;
        is_report = refl;
        right = right;
        made_up = rw right.cost_is at made_up;
        payments_from_0 = paid.payments;
        surplus_from_0 = paid.surplus;
        printed = subst gained is printed;
      }

-- ---- the refusal of a report

-- the code of a fault of a report
abbrev code_of : TopFault → ℕ
code_of (Unfit code line) = report_number code
code_of f = 0

-- bytes that are too many
too_many : (read : Option (List ℕ)) → Err (TooBig ReportFile) ≡ bytes_of ReportFile read →
    (bytes : List ℕ) × (read ≡ Some bytes) × (MOST_BYTES < length bytes)
too_many None e = absurd cc
too_many (Some bytes) e = (bytes, refl, ltb-true MOST_BYTES (length bytes) (long (nat_lt MOST_BYTES (length bytes)) e))
  where
    long : (b : Bool) → Err (TooBig ReportFile) ≡ (if b then Err (TooBig ReportFile) else Ok bytes) → b ≡ true
    long true e = refl
    long false e = absurd cc

module _ (got : BytesAreThoseRead) (text_read : ReportBytesAreItsText) (determined : TextDeterminesReport)
    (has_form : RightReportHasForm) (in_form : PrintedReportsAreInForm) (a : AuditAsked)
    (gained short : List ℕ → Type 0) (reads : Reads) (f : TopFault)
    (lines : gained (fault_line f) ⊎ short (fault_line f))
    (eight : status_of f ≡ 8) (due_f : (command_for (Ok (audit a))).IsDue reads (Err f)) where
  abbrev IsSo : Type 0
  IsSo = (i : PlannedCase) × IsAuditRefused (command_for (Ok (audit a))) gained short reads i

  -- a report that was read and isn't right has the bytes of no right one
  not_right : (i : PlannedCase) (r : Report) → IsReport r → (IsRightReport i.market i.plan r.budget r.ahead r → ⊥) →
      (s : Report) → IsRightReport i.market i.plan s.budget s.ahead s → report_text r ≡ report_text s → ⊥
  not_right i r bounds other s right same =
      let e = determined r s (within_has_form r bounds) (has_form i.market i.plan s.budget s.ahead s right) same in
      other (subst (λ (x : Report). IsRightReport i.market i.plan x.budget x.ahead x) (sym e) right)

  never_61 : (line other : ℕ) → f ≡ Unfit OutOfForm line → f ≡ Unfit Wrong other → ⊥
  never_61 line other e g = let h : 60 ≡ 61 = ap code_of (sym e ∙ g) in omega (arith, h)

  never_big : (code : ReportCode) (line : ℕ) → f ≡ TooBig ReportFile → f ≡ Unfit code line → ⊥
  never_big code line e g = let h : TooBig ReportFile ≡ Unfit code line = sym e ∙ g in absurd cc

  one_line : (code : ReportCode) (line other : ℕ) → f ≡ Unfit code line → f ≡ Unfit code other → line ≡ other
  one_line code line other e g = let h : Unfit code line ≡ Unfit code other = sym e ∙ g in cc

  of_wrong : (i : PlannedCase) (r : Report) → IsInput reads (Ok i) → IsReportFile (reads ReportFile) (Ok r) →
      (IsRightReport i.market i.plan r.budget r.ahead r → ⊥) → (line : ℕ) → DiffersFromRight i.market i.plan r line →
      f ≡ Unfit Wrong line → IsSo
  of_wrong i r input file other line differs e = (
    i,
    record {
      fault = f;
      status = eight;
      due = due_f;
      written = lines;
      input = input;
      bytes = report_text r;
      is_read = text_read (reads ReportFile) r file;
      too_big = λ big. absurd (never_big Wrong line big e);
      unfit = λ at is. absurd (never_61 at line is e);
      wrong = λ at is. subst (IsWrongAt i (report_text r)) (one_line Wrong line at e is)
          (record {
            report = r;
            bounds = is_within (reads ReportFile) r file;
            is_text = refl;
            wrong = other;
            differs =
                differs;
          });
      none = λ fits s asked right same. not_right i r (is_within (reads ReportFile) r file) other s right same;
      never = λ at is s right same. not_right i r (is_within (reads ReportFile) r file) other s right same;
    },
  )

  of_form : (i : PlannedCase) (bytes : List ℕ) (line : ℕ) → IsInput reads (Ok i) → reads ReportFile ≡ Some bytes →
      IsFault bytes line → f ≡ Unfit OutOfForm line → IsSo
  of_form i bytes line input read fault is = (
    i,
    record {
      fault = f;
      status = eight;
      due = due_f;
      written = lines;
      input = input;
      bytes = bytes;
      is_read = read;
      too_big = λ big. absurd (never_big OutOfForm line big is);
      unfit = λ at also. subst (IsFault bytes) (one_line OutOfForm line at is also) fault;
      wrong = λ other also. absurd (never_61 line other is also);
      none = λ fits s asked right same. (let parts = input_parts got reads i input in
          fault.none s (in_form parts.case_bytes i.market i.plan s.budget s.ahead s parts.is_case parts.feasible asked
          right) same);
      never = λ other also s right same. never_61 line other is also;
    },
  )

  of_size : (i : PlannedCase) (bytes : List ℕ) → IsInput reads (Ok i) → reads ReportFile ≡ Some bytes →
      MOST_BYTES < length bytes → f ≡ TooBig ReportFile → IsSo
  of_size i bytes input read long is = (
    i,
    record {
      fault = f;
      status = eight;
      due = due_f;
      written = lines;
      input = input;
      bytes = bytes;
      is_read = read;
      too_big = λ big. long;
      unfit = λ at also. absurd (never_big OutOfForm at is also);
      wrong = λ at also. absurd (never_big Wrong at is also);
      none = λ fits s asked right same. omega (arith, fits, long);
      never = λ at also s right same. never_big Wrong at is also;
    },
  )

  of_file : (i : PlannedCase) → IsInput reads (Ok i) → IsReportFile (reads ReportFile) (Err f) → IsSo
  of_file i input (Ok bytes, is, (line, fault, e)) =
      of_form i bytes line input (got ReportFile (reads ReportFile) bytes is) fault e
  of_file i input (Err g, is, e) =
      let same : Err f ≡ bytes_of ReportFile (reads ReportFile) = ap Err (same_fault f g e) ∙ is in
      elim (bytes_fault ReportFile (reads ReportFile) f same) [
        | inl p ↦ let two : status_of f ≡ 2 = ap status_of p.0 in absurd (omega (arith, eight, two))
        | inr big ↦ let many = too_many (reads ReportFile) (ap Err (sym big) ∙ same) in
            of_size i many.0 input many.1 many.2 big
      ]

  of_audit : (i : PlannedCase) → IsInput reads (Ok i) → IsAudit reads i (Err f) → IsSo
  of_audit i input (Ok r, file, (Ok left, work, (line, other, differs, e))) =
      let same : i ≡ left = same_input r.budget i left work in
      of_wrong left r (subst (λ (x : PlannedCase). IsInput reads (Ok x)) same input) file other line differs e
  of_audit i input (Ok r, file, (Err g, work, e)) =
      let five = work_fault r.budget i f
      (subst (λ (h : TopFault). IsWithinWork r.budget i (Err h)) (sym (same_fault f g e)) work) in
      absurd (omega (arith, eight, five))
  of_audit i input (Err g, file, e) =
      of_file i input (subst (λ (h : TopFault). IsReportFile (reads ReportFile) (Err h)) (sym (same_fault f g e)) file)

  of_due : (command_for (Ok (audit a))).IsDue reads (Err f) → IsSo
  of_due (Ok i, input, audited) = of_audit i input audited
  of_due (Err g, input, e) =
      elim (input_fault reads f (subst (λ (h : TopFault). IsInput reads (Err h)) (sym (same_fault f g e)) input)) [
        | inl p ↦ let two : status_of f ≡ 2 = ap status_of p.0 in absurd (omega (arith, eight, two))
        | inr (inl p) ↦ let two : status_of f ≡ 2 = ap status_of p.0 in absurd (omega (arith, eight, two))
        | inr (inr p) ↦ let most = p.1 in absurd (omega (arith, eight, most))
      ]

  pub audit_refused : IsSo
  audit_refused = of_due due_f

-- ---- both

module _ (got : BytesAreThoseRead) (text_read : ReportBytesAreItsText) (gap : ReportPaymentsMakeUpTheGap)
    (priced : RunPricesAreWithin) (nothing : PaymentsAreAtLeastZero) (determined : TextDeterminesReport)
    (has_form : RightReportHasForm) (in_form : PrintedReportsAreInForm) (a : AuditAsked)
    (told : List ℕ → Option (List ℕ)) (rose gained short : List ℕ → Type 0) where
  abbrev Promise : Result Asked WordFault → ℕ → Type 0
  Promise w n =
      (n ≡ 0 → IsAuditPromised a told gained)
      × (n ≡ 8 → OverReads (command_for w) told rose
      (λ reads. (i : PlannedCase) × IsAuditRefused (command_for w) gained short reads i))

  audited : (n : ℕ) (reads : Reads) (e : End) → AreReads told rose (command_for (Ok (audit a))).name_of reads →
      Ends (command_for (Ok (audit a))) reads gained short e → n ≡ status_at e → Promise (Ok (audit a)) n
  audited n reads Done are ends is = (
    λ z. audit_promised got text_read gap priced nothing determined has_form a told rose gained reads are ends,
    λ z. absurd (omega (arith, is, z)),
  )
  audited n reads Cut are ends is = (λ z. absurd (omega (arith, is, z)), λ z. absurd (omega (arith, is, z)))
  audited n reads (Refused f) are (inl due, lines) is = (
    λ z. absurd (omega (arith, is, z, (status_within f).0)),
    λ z. (
      reads,
      are,
      audit_refused got text_read determined has_form in_form a gained short reads f lines (sym is ∙ z)
          due,
    ),
  )
  audited n reads (Refused f) are (inr memory, lines) is =
      let seven : n ≡ 7 = is ∙ ap status_of memory in (
        λ z. absurd (omega (arith, seven, z)),
        λ z. absurd (omega (arith, seven, z)),
      )

  pub audit_holds : (w : Result Asked WordFault) (n : ℕ) (reads : Reads) (e : End) →
      AreReads told rose (command_for w).name_of reads → Ends (command_for w) reads gained short e → n ≡ status_at e →
      w ≡ Ok (audit a) → Promise w n
  audit_holds w n reads e are ends is same =
      subst (λ (v : Result Asked WordFault). Promise v n) (sym same)
      (audited n reads e
      (subst (λ (v : Result Asked WordFault). AreReads told rose (command_for v).name_of reads) same are)
      (subst (λ (v : Result Asked WordFault). Ends (command_for v) reads gained short e) same ends) is)
