-- Two runs of the same words over the same bytes print the same.
use Rattle.law_outcome.proofs.Common.{◌≡◌, ◌⊎◌, ℕ, inl, inr, List, Option, None, Some, Result, Ok, Err, refl, sym, ap}
use Rattle.law_outcome.proofs.Common.{◌∙◌, subst, arith, IfSome, Asked, check, price, try, bound, fixed, audit, settle}
use Rattle.law_outcome.proofs.Common.{certify, convex, IsWithinRounds, status_of, fault_line}
use Rattle.law_outcome.proofs.Common.{CaseFile, ScheduleFile, ReportFile, PricesFile}
use Rattle.law_outcome.proofs.Common.{MixtureFile, TopFault, End, Done, Cut, Refused, Reads, Then, IsCaseFile}
use Rattle.law_outcome.proofs.Common.{IsPlanFile, IsChecked, IsInput, IsWithinWork, IsReportFile, IsJudged}
use Rattle.law_outcome.proofs.Common.{IsPricesFile, IsMixtureFile, MixtureLists, IsAuditText, IsSettlementText}
use Rattle.law_outcome.proofs.Common.{IsCertificateText, Report, PriceLists, PlannedCase, command_for, IsReadOf}
use Rattle.law_outcome.proofs.Common.{AreReads, HasText, Ends, status_at, with_workers, TellTheSame, BytesAreThoseRead}
use Rattle.law_outcome.proofs.Common.{ReportBytesAreItsText, report_text, Read, AuditAsked, WordFault}
use Rattle.hull_fault.specs.declared.fault.FileKind.{FileKind}
use Rattle.law_outcome.proofs.OutcomeLaws.{status_within, same_fault, InputParts, input_parts, input_fault}
use Rattle.law_outcome.proofs.OutcomeLaws.{due_fault, at_8_of}
use Rattle.law_outcome.proofs.SettlePromise.{prices_parts}
use Rattle.law_outcome.proofs.CertifyPromise.{mixture_parts}

-- ---- reads that agree on the files of a command

-- what is due over what was read of each file
abbrev InputOf : Option (List ℕ) → Option (List ℕ) → Result PlannedCase TopFault → Type 0
InputOf case plan = Then (IsCaseFile case) (λ m. Then (IsPlanFile m plan) (IsChecked m))

abbrev AuditOf : Option (List ℕ) → PlannedCase → Result PlannedCase TopFault → Type 0
AuditOf read c = Then (IsReportFile read) (λ r. Then (IsWithinWork r.budget c) (IsJudged r))

abbrev PricedOf : Option (List ℕ) → PlannedCase → Result PlannedCase TopFault → Type 0
PricedOf read c = Then (IsPricesFile c.market.periods read) (λ π due. due ≡ Ok c)

abbrev MixedOf : Option (List ℕ) → PlannedCase → Result PlannedCase TopFault → Type 0
MixedOf read c = Then (IsMixtureFile c.market read) (λ x due. due ≡ Ok c)

abbrev CertifiedOf : Option (List ℕ) → Option (List ℕ) → PlannedCase → Result PlannedCase TopFault → Type 0
CertifiedOf prices mixture c = Then (PricedOf prices c) (MixedOf mixture)

module _ (reads other : Reads) where
  abbrev pub Agree : Asked → Type 0
  Agree a = (file : FileKind) → IfSome ((command_for (Ok a)).name_of file) (λ name. reads file ≡ other file)

  input_over : (next : PlannedCase → Result PlannedCase TopFault → Type 0) (found : Result PlannedCase TopFault) →
      reads CaseFile ≡ other CaseFile → reads ScheduleFile ≡ other ScheduleFile → Then (IsInput reads) next found →
      Then (IsInput other) next found
  input_over next found p q due =
      subst (λ (o : Option (List ℕ)). Then (InputOf o (other ScheduleFile)) next found) p
      (subst (λ (o : Option (List ℕ)). Then (InputOf (reads CaseFile) o) next found) q due)

  due_over : (a : Asked) (found : Result PlannedCase TopFault) → Agree a → (command_for (Ok a)).IsDue reads found →
      (command_for (Ok a)).IsDue other found
  due_over (check x) found same due =
      subst (λ (o : Option (List ℕ)). InputOf o (other ScheduleFile) found) (same CaseFile)
      (subst (λ (o : Option (List ℕ)). InputOf (reads CaseFile) o found) (same ScheduleFile) due)
  due_over (price x) found same due =
      input_over (IsWithinWork x.proposals) found (same CaseFile) (same ScheduleFile) due
  due_over (try x) found same due = due
  due_over (bound x) found same due =
      input_over (IsWithinWork x.run.proposals) found (same CaseFile) (same ScheduleFile) due
  due_over (fixed x) found same due =
      input_over (IsWithinWork x.proposals) found (same CaseFile) (same ScheduleFile) due
  due_over (audit x) found same due =
      subst (λ (o : Option (List ℕ)). Then (IsInput other) (AuditOf o) found) (same ReportFile)
      (input_over (AuditOf (reads ReportFile)) found (same CaseFile) (same ScheduleFile) due)
  due_over (settle x) found same due =
      subst (λ (o : Option (List ℕ)). Then (IsInput other) (PricedOf o) found) (same PricesFile)
      (input_over (PricedOf (reads PricesFile)) found (same CaseFile) (same ScheduleFile) due)
  due_over (convex x) found same due =
      input_over (IsWithinRounds x.rounds) found (same CaseFile) (same ScheduleFile) due
  due_over (certify x) found same due =
      subst (λ (o : Option (List ℕ)). Then (IsInput other) (CertifiedOf o (other MixtureFile)) found) (same PricesFile)
      (subst (λ (o : Option (List ℕ)). Then (IsInput other) (CertifiedOf (reads PricesFile) o) found) (same MixtureFile)
      (input_over (CertifiedOf (reads PricesFile) (reads MixtureFile)) found (same CaseFile) (same ScheduleFile) due))

  text_over : (a : Asked) (i : PlannedCase) (text : List ℕ) → Agree a → (command_for (Ok a)).IsText reads i text →
      (command_for (Ok a)).IsText other i text
  text_over (check x) i text same is = is
  text_over (price x) i text same is = is
  text_over (try x) i text same is = is
  text_over (bound x) i text same is = is
  text_over (fixed x) i text same is = is
  text_over (audit x) i text same is = subst (λ (o : Option (List ℕ)). IsAuditText o i text) (same ReportFile) is
  text_over (settle x) i text same is = subst (λ (o : Option (List ℕ)). IsSettlementText o i text) (same PricesFile) is
  text_over (convex x) i text same is = is
  text_over (certify x) i text same is =
      subst (λ (o : Option (List ℕ)). IsCertificateText o (other MixtureFile) x.radius i text) (same PricesFile)
      (subst (λ (o : Option (List ℕ)). IsCertificateText (reads PricesFile) o x.radius i text) (same MixtureFile) is)

-- ---- the files of an accepted input were read

abbrev AllRead : Asked → Reads → Type 0
AllRead a reads = (file : FileKind) →
    IfSome ((command_for (Ok a)).name_of file) (λ name. (bytes : List ℕ) × (reads file ≡ Some bytes))

module _ (got : BytesAreThoseRead) (text_read : ReportBytesAreItsText) (reads : Reads) where
  check_read : (x : _) (i : PlannedCase) → InputParts reads i → AllRead (check x) reads
  check_read x i p CaseFile = (p.case_bytes, p.case_read)
  check_read x i p ScheduleFile = (p.plan_bytes, p.plan_read)
  check_read x i p ReportFile = tt
  check_read x i p PricesFile = tt
  check_read x i p MixtureFile = tt

  price_read : (x : _) (i : PlannedCase) → InputParts reads i → AllRead (price x) reads
  price_read x i p CaseFile = (p.case_bytes, p.case_read)
  price_read x i p ScheduleFile = (p.plan_bytes, p.plan_read)
  price_read x i p ReportFile = tt
  price_read x i p PricesFile = tt
  price_read x i p MixtureFile = tt

  bound_read : (x : _) (i : PlannedCase) → InputParts reads i → AllRead (bound x) reads
  bound_read x i p CaseFile = (p.case_bytes, p.case_read)
  bound_read x i p ScheduleFile = (p.plan_bytes, p.plan_read)
  bound_read x i p ReportFile = tt
  bound_read x i p PricesFile = tt
  bound_read x i p MixtureFile = tt

  fixed_read : (x : _) (i : PlannedCase) → InputParts reads i → AllRead (fixed x) reads
  fixed_read x i p CaseFile = (p.case_bytes, p.case_read)
  fixed_read x i p ScheduleFile = (p.plan_bytes, p.plan_read)
  fixed_read x i p ReportFile = tt
  fixed_read x i p PricesFile = tt
  fixed_read x i p MixtureFile = tt

  audit_read : (x : _) (i : PlannedCase) (r : Report) → InputParts reads i → IsReportFile (reads ReportFile) (Ok r) →
      AllRead (audit x) reads
  audit_read x i r p file CaseFile = (p.case_bytes, p.case_read)
  audit_read x i r p file ScheduleFile = (p.plan_bytes, p.plan_read)
  audit_read x i r p file ReportFile = (report_text r, text_read (reads ReportFile) r file)
  audit_read x i r p file PricesFile = tt
  audit_read x i r p file MixtureFile = tt

  settle_read : (x : _) (i : PlannedCase) (π : PriceLists) → InputParts reads i →
      IsPricesFile i.market.periods (reads PricesFile) (Ok π) → AllRead (settle x) reads
  settle_read x i π p file CaseFile = (p.case_bytes, p.case_read)
  settle_read x i π p file ScheduleFile = (p.plan_bytes, p.plan_read)
  settle_read x i π p file ReportFile = tt
  settle_read x i π p file PricesFile = let prices = prices_parts got reads i.market.periods π file in
      (prices.bytes, prices.is_read)
  settle_read x i π p file MixtureFile = tt

  certify_read : (x : _) (i : PlannedCase) (π : PriceLists) (mixture : MixtureLists) → InputParts reads i →
      IsPricesFile i.market.periods (reads PricesFile) (Ok π)
      → IsMixtureFile i.market (reads MixtureFile) (Ok mixture) → AllRead (certify x) reads
  certify_read x i π mixture p file mixed CaseFile = (p.case_bytes, p.case_read)
  certify_read x i π mixture p file mixed ScheduleFile = (p.plan_bytes, p.plan_read)
  certify_read x i π mixture p file mixed ReportFile = tt
  certify_read x i π mixture p file mixed PricesFile = let prices = prices_parts got reads i.market.periods π file in
      (prices.bytes, prices.is_read)
  certify_read x i π mixture p file mixed MixtureFile = let parts = mixture_parts got reads i.market mixture mixed in
      (parts.bytes, parts.is_read)

  convex_read : (x : _) (i : PlannedCase) → InputParts reads i → AllRead (convex x) reads
  convex_read x i p CaseFile = (p.case_bytes, p.case_read)
  convex_read x i p ScheduleFile = (p.plan_bytes, p.plan_read)
  convex_read x i p ReportFile = tt
  convex_read x i p PricesFile = tt
  convex_read x i p MixtureFile = tt

  try_read : (x : _) → AllRead (try x) reads
  try_read x CaseFile = tt
  try_read x ScheduleFile = tt
  try_read x ReportFile = tt
  try_read x PricesFile = tt
  try_read x MixtureFile = tt

  all_read : (a : Asked) (i : PlannedCase) → (command_for (Ok a)).IsDue reads (Ok i) → AllRead a reads
  all_read (check x) i due = check_read x i (input_parts got reads i due)
  all_read (price x) i (Ok c, input, work) = price_read x c (input_parts got reads c input)
  all_read (price x) i (Err g, input, e) = absurd cc
  all_read (try x) i due = try_read x
  all_read (bound x) i (Ok c, input, work) = bound_read x c (input_parts got reads c input)
  all_read (bound x) i (Err g, input, e) = absurd cc
  all_read (fixed x) i (Ok c, input, work) = fixed_read x c (input_parts got reads c input)
  all_read (fixed x) i (Err g, input, e) = absurd cc
  all_read (audit x) i (Ok c, input, (Ok r, file, more)) = audit_read x c r (input_parts got reads c input) file
  all_read (audit x) i (Ok c, input, (Err g, file, e)) = absurd cc
  all_read (audit x) i (Err g, input, e) = absurd cc
  all_read (settle x) i (Ok c, input, (Ok π, file, e)) = settle_read x c π (input_parts got reads c input) file
  all_read (settle x) i (Ok c, input, (Err g, file, e)) = absurd cc
  all_read (settle x) i (Err g, input, e) = absurd cc
  all_read (certify x) i (Ok c, input, (Ok d, (Ok π, file, k), (Ok mixture, mixed, e))) =
      let same : d ≡ c = cc in
      certify_read x c π mixture (input_parts got reads c input) file
      (subst (λ (j : PlannedCase). IsMixtureFile j.market (reads MixtureFile) (Ok mixture)) same mixed)
  all_read (certify x) i (Ok c, input, (Ok d, (Err g, file, k), (Ok mixture, mixed, e))) = absurd cc
  all_read (certify x) i (Ok c, input, (Ok d, priced, (Err g, mixed, e))) = absurd cc
  all_read (certify x) i (Ok c, input, (Err g, priced, e)) = absurd cc
  all_read (certify x) i (Err g, input, e) = absurd cc
  all_read (convex x) i (Ok c, input, work) = convex_read x c (input_parts got reads c input)
  all_read (convex x) i (Err g, input, e) = absurd cc

-- ---- and so they were where a report is refused

-- nothing is said of a text
abbrev Any : List ℕ → Type 0
Any text = Unit {0}

-- the bytes of a report's file that was read
report_bytes : (read : Option (List ℕ)) (f : TopFault) → IsReportFile read (Err f) → status_of f ≡ 8 →
    (bytes : List ℕ) × (read ≡ Some bytes)
report_bytes (Some bytes) f file eight = (bytes, refl)
report_bytes None f (Ok bytes, is, more) eight = absurd cc
report_bytes None f (Err g, is, e) eight =
    let same : f ≡ Read ReportFile = same_fault f g e ∙ same_fault g (Read ReportFile) is in
    let two : status_of f ≡ 2 = ap status_of same in absurd (omega (arith, two, eight))

module _ (got : BytesAreThoseRead) (text_read : ReportBytesAreItsText) (reads : Reads) where
  refused_read : (x : _) (i : PlannedCase) → InputParts reads i → (bytes : List ℕ) → reads ReportFile ≡ Some bytes →
      AllRead (audit x) reads
  refused_read x i p bytes is CaseFile = (p.case_bytes, p.case_read)
  refused_read x i p bytes is ScheduleFile = (p.plan_bytes, p.plan_read)
  refused_read x i p bytes is ReportFile = (bytes, is)
  refused_read x i p bytes is PricesFile = tt
  refused_read x i p bytes is MixtureFile = tt

  all_read_by : (x : _) (f : TopFault) → status_of f ≡ 8 → (command_for (Ok (audit x))).IsDue reads (Err f) →
      AllRead (audit x) reads
  all_read_by x f eight (Ok c, input, (Ok r, file, more)) =
      audit_read got text_read reads x c r (input_parts got reads c input) file
  all_read_by x f eight (Ok c, input, (Err g, file, e)) =
      let same : g ≡ f = sym (same_fault f g e) in
      let found = report_bytes (reads ReportFile) g file (ap status_of same ∙ eight) in
      refused_read x c (input_parts got reads c input) found.0 found.1
  all_read_by x f eight (Err g, input, e) =
      let same : g ≡ f = sym (same_fault f g e) in
      absurd (elim (input_fault reads g input) [
        | inl p ↦ let two : status_of g ≡ 2 = ap status_of p.0 in
            let n : status_of g ≡ status_of f = ap status_of same in omega (arith, two, n, eight)
        | inr (inl p) ↦ let two : status_of g ≡ 2 = ap status_of p.0 in
            let n : status_of g ≡ status_of f = ap status_of same in omega (arith, two, n, eight)
        | inr (inr p) ↦ let high = p.1 in
            let n : status_of g ≡ status_of f = ap status_of same in omega (arith, high, n, eight)
      ])

  all_read_at_8 : (a : Asked) (f : TopFault) → status_of f ≡ 8 → (command_for (Ok a)).IsDue reads (Err f) →
      AllRead a reads
  all_read_at_8 a f eight due = of_audit (at_8_of (Ok a) Any Any reads f eight (due_fault (Ok a) reads f due)) due
    where
      of_audit : (x : AuditAsked) × (◌≡◌ {A = Result Asked WordFault} (Ok a) (Ok (audit x))) →
          (command_for (Ok a)).IsDue reads (Err f) → AllRead a reads
      of_audit (x, is) due =
          let same : audit x ≡ a = cc in
          subst (λ (b : Asked). AllRead b reads) same
          (all_read_by x f eight
          (subst (λ (b : Asked). (command_for (Ok b)).IsDue reads (Err f)) (sym same) due))

-- what was read of a file is what both tell of it
told_bytes : (told : Option (List ℕ)) (rose : Type 0) (read : Option (List ℕ)) (bytes all : List ℕ) → told ≡ Some all →
    read ≡ Some bytes → IsReadOf told rose read → bytes ≡ all
told_bytes told rose read bytes all t e is =
    subst (λ (o : Option (List ℕ)). IfSome o (λ x. bytes ≡ x)) t (subst (IsReadOf told rose) e is)

both_read : (o : Option (List ℕ)) (told told_other : List ℕ → Option (List ℕ)) (rose rose_other : List ℕ → Type 0)
    (read other : Option (List ℕ))
    → IfSome o (λ name. (bytes : List ℕ) × (told name ≡ Some bytes) × (told_other name ≡ Some bytes))
    → IfSome o (λ name. IsReadOf (told name) (rose name) read) →
    IfSome o (λ name. IsReadOf (told_other name) (rose_other name) other)
    → IfSome o (λ name. (bytes : List ℕ) × (read ≡ Some bytes)) →
    IfSome o (λ name. (bytes : List ℕ) × (other ≡ Some bytes)) → IfSome o (λ name. read ≡ other)
both_read None told told_other rose rose_other read other same is is_other some some_other = tt
both_read (Some name) told told_other rose rose_other read other (all, t, u) is is_other (bytes, e) (more, f) =
    let p = told_bytes (told name) (rose name) read bytes all t e is in
    let q = told_bytes (told_other name) (rose_other name) other more all u f is_other in
    e ∙ ap Some (p ∙ sym q) ∙ sym f

-- ---- the number of workers is free

free_reads : (a : Asked) (workers : ℕ) (told : List ℕ → Option (List ℕ)) (rose : List ℕ → Type 0) (reads : Reads) →
    AreReads told rose (command_for (Ok (with_workers workers a))).name_of reads →
    AreReads told rose (command_for (Ok a)).name_of reads
free_reads (check x) workers told rose reads are = are
free_reads (price x) workers told rose reads are = are
free_reads (try x) workers told rose reads are = are
free_reads (bound x) workers told rose reads are = are
free_reads (fixed x) workers told rose reads are = are
free_reads (audit x) workers told rose reads are = are
free_reads (settle x) workers told rose reads are = are
free_reads (certify x) workers told rose reads are = are
free_reads (convex x) workers told rose reads are = are

free_ends : (a : Asked) (workers : ℕ) (reads : Reads) (gained short : List ℕ → Type 0) (e : End) →
    Ends (command_for (Ok (with_workers workers a))) reads gained short e →
    Ends (command_for (Ok a)) reads gained short e
free_ends (check x) workers reads gained short e ends = ends
free_ends (price x) workers reads gained short e ends = ends
free_ends (try x) workers reads gained short e ends = ends
free_ends (bound x) workers reads gained short e ends = ends
free_ends (fixed x) workers reads gained short e ends = ends
free_ends (audit x) workers reads gained short e ends = ends
free_ends (settle x) workers reads gained short e ends = ends
free_ends (certify x) workers reads gained short e ends = ends
free_ends (convex x) workers reads gained short e ends = ends

-- ---- one output

-- what a run of such words shows: what was read, and how it ended
pub record Shows (a : Asked) (told : List ℕ → Option (List ℕ)) (rose gained short : List ℕ → Type 0) (n : ℕ) : Type
    0 where
  pub reads : Reads
  pub are : AreReads told rose (command_for (Ok a)).name_of reads
  pub end : End
  pub ends : Ends (command_for (Ok a)) reads gained short end
  pub status_is : n ≡ status_at end

pub free_shows : (a : Asked) (workers : ℕ) (told : List ℕ → Option (List ℕ)) (rose gained short : List ℕ → Type 0)
    (n : ℕ) → Shows (with_workers workers a) told rose gained short n → Shows a told rose gained short n
free_shows a workers told rose gained short n s = record {
  reads = s.reads;
  are = free_reads a workers told rose s.reads s.are;
  end = s.end;
  ends = free_ends a workers s.reads gained short s.end s.ends;
  status_is = s.status_is;
}

-- at 0 a text was gained
whole : (a : Asked) (reads : Reads) (gained short : List ℕ → Type 0) (e : End) (n : ℕ) →
    Ends (command_for (Ok a)) reads gained short e → n ≡ status_at e → n ≡ 0 → HasText (command_for (Ok a)) reads gained
whole a reads gained short Done n ends is z = ends
whole a reads gained short Cut n ends is z = absurd (omega (arith, is, z))
whole a reads gained short (Refused f) n ends is z = absurd (omega (arith, is, z, (status_within f).0))

-- at 8 a fault of that status is due, and its line was written
refused : (a : Asked) (reads : Reads) (gained short : List ℕ → Type 0) (e : End) (n : ℕ) →
    Ends (command_for (Ok a)) reads gained short e → n ≡ status_at e → n ≡ 8
    → (f : TopFault) × (command_for (Ok a)).IsDue reads (Err f) × (status_of f ≡ 8)
    × (gained (fault_line f) ⊎ short (fault_line f))
refused a reads gained short Done n ends is z = absurd (omega (arith, is, z))
refused a reads gained short Cut n ends is z = absurd (omega (arith, is, z))
refused a reads gained short (Refused f) n (inl due, line) is z = (f, due, omega (arith, is, z), line)
refused a reads gained short (Refused f) n (inr memory, line) is z =
    let seven : status_of f ≡ 7 = ap status_of memory in absurd (omega (arith, is, z, seven))

module _ (got : BytesAreThoseRead) (text_read : ReportBytesAreItsText) (a : Asked)
    (one_due : (reads : Reads) (due other : Result PlannedCase TopFault) → (command_for (Ok a)).IsDue reads due →
    (command_for (Ok a)).IsDue reads other → due ≡ other)
    (one_text : (reads : Reads) (i : PlannedCase) (text other : List ℕ) → (command_for (Ok a)).IsText reads i text →
    (command_for (Ok a)).IsText reads i other → text ≡ other)
    (told told_other : List ℕ → Option (List ℕ)) (same : TellTheSame a told told_other)
    (rose rose_other gained gained_other short short_other : List ℕ → Type 0) (n n_other : ℕ)
    (s : Shows a told rose gained short n) (t : Shows a told_other rose_other gained_other short_other n_other) where
  abbrev Both : Type 0
  Both = (text : List ℕ) × gained text × gained_other text

  agree : AllRead a s.reads → AllRead a t.reads → Agree t.reads s.reads a
  agree some some_other file = both_read ((command_for (Ok a)).name_of file) told_other told rose_other rose
      (t.reads file) (s.reads file) (turned file) (t.are file) (s.are file) (some_other file) (some file)
    where
      turn : (o : Option (List ℕ)) →
          IfSome o (λ name. (bytes : List ℕ) × (told name ≡ Some bytes) × (told_other name ≡ Some bytes)) →
          IfSome o (λ name. (bytes : List ℕ) × (told_other name ≡ Some bytes) × (told name ≡ Some bytes))
      turn None h = tt
      turn (Some name) (bytes, p, q) = (bytes, q, p)

      turned : (file : FileKind) → IfSome ((command_for (Ok a)).name_of file)
          (λ name. (bytes : List ℕ) × (told_other name ≡ Some bytes) × (told name ≡ Some bytes))
      turned file = turn ((command_for (Ok a)).name_of file) (same file)

  same_texts : HasText (command_for (Ok a)) s.reads gained → HasText (command_for (Ok a)) t.reads gained_other → Both
  same_texts (i, due, text, is, p) (j, due_other, other, is_other, q) =
      let reads_agree = agree (all_read got text_read s.reads a i due) (all_read got text_read t.reads a j due_other) in
      let found = one_due s.reads (Ok i) (Ok j) due (due_over t.reads s.reads a (Ok j) reads_agree due_other) in
      let input : j ≡ i = cc in
      let shown = subst (λ (c : PlannedCase). (command_for (Ok a)).IsText s.reads c other) input
      (text_over t.reads s.reads a j other reads_agree is_other) in
      (text, p, subst gained_other (one_text s.reads i other text shown is) q)

  same_lines : AllRead a s.reads → AllRead a t.reads → (f : TopFault) × (command_for (Ok a)).IsDue s.reads (Err f) ×
      gained (fault_line f) → (f : TopFault) × (command_for (Ok a)).IsDue t.reads (Err f) ×
      gained_other (fault_line f) → Both
  same_lines some some_other (f, due, p) (g, due_other, q) =
      let found = one_due s.reads (Err f) (Err g) due
      (due_over t.reads s.reads a (Err g) (agree some some_other) due_other) in
      (fault_line f, p, subst gained_other (ap fault_line (sym (same_fault f g found))) q)

  -- what is due, where it was told
  abbrev IsDueAt : (reads : Reads) (gained short : List ℕ → Type 0) → ℕ → Type 0
  IsDueAt reads gained short n =
      ((n ≡ 0) × HasText (command_for (Ok a)) reads gained)
      ⊎ (n ≡ 8) × ((f : TopFault) × (command_for (Ok a)).IsDue reads (Err f) × (status_of f ≡ 8)
      × (gained (fault_line f) ⊎ short (fault_line f)))

  told_at : (reads : Reads) (gained short : List ℕ → Type 0) (e : End) (n : ℕ) →
      Ends (command_for (Ok a)) reads gained short e → n ≡ status_at e → (n ≡ 0) ⊎ (n ≡ 8) →
      IsDueAt reads gained short n
  told_at reads gained short e n ends is at = elim at [
    | inl z ↦ inl (z, whole a reads gained short e n ends is z)
    | inr z ↦ inr (z, refused a reads gained short e n ends is z)
  ]

  abbrev IsQuietSink : Type 0
  IsQuietSink = ((text : List ℕ) → ¬ short text) × ((text : List ℕ) → ¬ short_other text)

  abbrev One : Type 0
  One = (n ≡ n_other) × ((n ≡ 0) ⊎ IsQuietSink → Both)

  -- one is accepted and the other is refused: no
  never : AllRead a s.reads → AllRead a t.reads → (i : PlannedCase) (f : TopFault) →
      ((command_for (Ok a)).IsDue s.reads (Ok i) × (command_for (Ok a)).IsDue t.reads (Err f)) ⊎
      ((command_for (Ok a)).IsDue s.reads (Err f) × (command_for (Ok a)).IsDue t.reads (Ok i)) → ⊥
  never some some_other i f (inl (due, due_other)) =
      let found = one_due s.reads (Ok i) (Err f) due
      (due_over t.reads s.reads a (Err f) (agree some some_other) due_other) in absurd cc
  never some some_other i f (inr (due, due_other)) =
      let found = one_due s.reads (Err f) (Ok i) due
      (due_over t.reads s.reads a (Ok i) (agree some some_other) due_other) in absurd cc

  written : (g h : List ℕ → Type 0) (f : TopFault) → ((text : List ℕ) → ¬ h text) →
      g (fault_line f) ⊎ h (fault_line f) → g (fault_line f)
  written g h f quiet (inl line) = line
  written g h f quiet (inr line) = absurd (quiet (fault_line f) line)

  of_both : IsDueAt s.reads gained short n → IsDueAt t.reads gained_other short_other n_other → One
  of_both (inl (z, told_text)) (inl (z_other, told_other_text)) =
      (z ∙ sym z_other, λ _. same_texts told_text told_other_text)
  of_both (inl (z, (i, due, shown, is, printed))) (inr (z_other, (f, due_other, eight, line))) =
      absurd (never (all_read got text_read s.reads a i due) (all_read_at_8 got text_read t.reads a f eight due_other) i
      f (inl (due, due_other)))
  of_both (inr (z, (f, due, eight, line))) (inl (z_other, (i, due_other, shown, is, printed))) =
      absurd (never (all_read_at_8 got text_read s.reads a f eight due) (all_read got text_read t.reads a i due_other) i
      f (inr (due, due_other)))
  of_both (inr (z, (f, due, eight, line))) (inr (z_other, (g, due_other, eight_other, line_other))) =
      (z ∙ sym z_other, lines)
    where
      lines : (n ≡ 0) ⊎ IsQuietSink → Both
      lines (inl zero_is) = absurd (omega (arith, zero_is, z))
      lines (inr quiet) =
          same_lines (all_read_at_8 got text_read s.reads a f eight due)
          (all_read_at_8 got text_read t.reads a g eight_other due_other)
          (f, due, written gained short f quiet.0 line)
          (g, due_other, written gained_other short_other g quiet.1 line_other)

  pub same_end : (n ≡ 0) ⊎ (n ≡ 8) → (n_other ≡ 0) ⊎ (n_other ≡ 8) → One
  same_end at at_other =
      of_both (told_at s.reads gained short s.end n s.ends s.status_is at)
      (told_at t.reads gained_other short_other t.end n_other t.ends t.status_is at_other)
