-- Where a schedule is refused, no feasible one is in its file.
use Rattle.law_outcome.proofs.Common.{◌≡◌, ℕ, ◌≤◌, ◌⊎◌, inl, inr, Bool, true, false, List, Option, None, Some, Result}
use Rattle.law_outcome.proofs.Common.{Ok, Err, refl, sym, ap, ◌∙◌, subst, arith, length, nat_lt, if◌then◌else◌}
use Rattle.law_outcome.proofs.Common.{ltb-true, Market, Schedule, IsFeasiblePlan, plan_cost, MOST_BYTES, CaseFile}
use Rattle.law_outcome.proofs.Common.{ScheduleFile, TopFault, TooBig, CaseText, CaseField, Words, Read, Asked, check}
use Rattle.law_outcome.proofs.Common.{price, try, bound, fixed, audit, settle, certify, convex, words_of, WordFault}
use Rattle.law_outcome.proofs.Common.{End, rounds_for}
use Rattle.law_outcome.proofs.Common.{done_whole, Cut, Refused, Reads, PlannedCase, bytes_of, Then, IsBytes, IsCaseFile}
use Rattle.law_outcome.proofs.Common.{IsPlanFile, IsChecked, IsInput, status_of, fault_line, command_for, AreReads}
use Rattle.law_outcome.proofs.Common.{Ends, status_at, OverReads}
use Rattle.uc_text.specs.Files.{text, value}
use Rattle.uc_case.specs.Laws.{CaseFileHasOneValueOrOneFault}
use Rattle.law_parts.specs.CaseLaws.{CasesAreWithin}
use Rattle.uc_model.specs.Laws.{FeasibleExactlyWithoutBrokenRule}
use Rattle.uc_model.specs.Limits.{IsMarket}
use Rattle.uc_model.specs.PlanLaws.{FeasiblePlansHaveShape}
use Rattle.uc_plan.specs.Laws.{ScheduleFileHasOneValueOrOneFault}
use Rattle.uc_plan.specs.PlanFiles.{IsPlanOf}
use Rattle.law_outcome.specs.Laws.{HasNoFeasibleSchedule}
use Rattle.law_outcome.proofs.OneDue.{one_input}
use Rattle.law_outcome.proofs.OutcomeLaws.{case_found, same_fault, bytes_fault, work_fault, audit_fault, priced_fault}
use Rattle.law_outcome.proofs.OutcomeLaws.{certifiable_fault}

-- the fault of a case isn't one of a schedule
case_is_read : (reads : Reads) (f : TopFault) → IsCaseFile (reads CaseFile) (Err f) → status_of f ≡ 4 → ⊥
case_is_read reads f (Ok bytes, is, (Ok m, reading, e)) z = absurd cc
case_is_read reads f (Ok bytes, is, (Err (text t), reading, e)) z = let s : f ≡ CaseText t = cc in
    let n : status_of f ≡ 3 = ap status_of s in omega (arith, n, z)
case_is_read reads f (Ok bytes, is, (Err (value t), reading, e)) z = let s : f ≡ CaseField t = cc in
    let n : status_of f ≡ 3 = ap status_of s in omega (arith, n, z)
case_is_read reads f (Err g, is, e) z =
    let h : Err f ≡ bytes_of CaseFile (reads CaseFile) = ap Err (same_fault f g e) ∙ is in
    elim (bytes_fault CaseFile (reads CaseFile) f h) [
      | inl p ↦ let n : status_of f ≡ 2 = ap status_of p.0 in omega (arith, n, z)
      | inr s ↦ let n : status_of f ≡ 3 = ap status_of s in omega (arith, n, z)
    ]

-- what is refused with 4 is the input
refused_input : (reads : Reads) (f g : TopFault) → ◌≡◌ {A = Result PlannedCase TopFault} (Err f) (Err g) →
    IsInput reads (Err g) → IsInput reads (Err f)
refused_input reads f g e input = subst (λ (h : TopFault). IsInput reads (Err h)) (sym (same_fault f g e)) input

input_is_refused : (w : Result Asked WordFault) (reads : Reads) (f : TopFault) → (command_for w).IsDue reads (Err f) →
    status_of f ≡ 4 → IsInput reads (Err f)
input_is_refused (Ok (check a)) reads f due z = due
input_is_refused (Ok (price a)) reads f (Ok c, input, work) z = let five = work_fault a.proposals c f work in
    absurd (omega (arith, five, z))
input_is_refused (Ok (price a)) reads f (Err g, input, e) z = refused_input reads f g e input
input_is_refused (Ok (try a)) reads f (Ok c, input, work) z = let five = work_fault a.proposals c f work in
    absurd (omega (arith, five, z))
input_is_refused (Ok (try a)) reads f (Err g, made, e) z = absurd made
input_is_refused (Ok (bound a)) reads f (Ok c, input, work) z = let five = work_fault a.run.proposals c f work in
    absurd (omega (arith, five, z))
input_is_refused (Ok (bound a)) reads f (Err g, input, e) z = refused_input reads f g e input
input_is_refused (Ok (fixed a)) reads f (Ok c, input, work) z = let five = work_fault a.proposals c f work in
    absurd (omega (arith, five, z))
input_is_refused (Ok (fixed a)) reads f (Err g, input, e) z = refused_input reads f g e input
input_is_refused (Ok (audit a)) reads f (Ok c, input, audited) z =
    elim (audit_fault reads c f audited) [
      | inl p ↦ let two : status_of f ≡ 2 = ap status_of p.0 in absurd (omega (arith, two, z))
      | inr (inl eight) ↦ absurd (omega (arith, eight, z))
      | inr (inr five) ↦ absurd (omega (arith, five, z))
    ]
input_is_refused (Ok (audit a)) reads f (Err g, input, e) z = refused_input reads f g e input
input_is_refused (Ok (settle a)) reads f (Ok c, input, priced) z =
    elim (priced_fault reads c f priced) [
      | inl p ↦ let two : status_of f ≡ 2 = ap status_of p.0 in absurd (omega (arith, two, z))
      | inr nine ↦ absurd (omega (arith, nine, z))
    ]
input_is_refused (Ok (settle a)) reads f (Err g, input, e) z = refused_input reads f g e input
input_is_refused (Ok (certify a)) reads f (Ok c, input, certifiable) z =
    elim (certifiable_fault reads c f certifiable) [
      | inl (inl p) ↦ let two : status_of f ≡ 2 = ap status_of p.0 in absurd (omega (arith, two, z))
      | inl (inr p) ↦ let two : status_of f ≡ 2 = ap status_of p.0 in absurd (omega (arith, two, z))
      | inr (inl nine) ↦ absurd (omega (arith, nine, z))
      | inr (inr ten) ↦ absurd (omega (arith, ten, z))
    ]
input_is_refused (Ok (certify a)) reads f (Err g, input, e) z = refused_input reads f g e input
input_is_refused (Ok (convex a)) reads f (Ok c, input, work) z =
    let five = work_fault (rounds_for a.rounds c.market) c f work in
    absurd (omega (arith, five, z))
input_is_refused (Ok (convex a)) reads f (Err g, input, e) z = refused_input reads f g e input
input_is_refused (Err x) reads f due z = let s : f ≡ Words x = same_fault f _ due in
    let one : status_of f ≡ 1 = ap status_of s in absurd (omega (arith, one, z))

-- a file that isn't too large is read as it is
whole : (bytes : List ℕ) → length bytes ≤ MOST_BYTES → IsBytes ScheduleFile (Some bytes) (Ok bytes)
whole bytes fits = by (nat_lt MOST_BYTES (length bytes)) refl
  where
    by : (b : Bool) → nat_lt MOST_BYTES (length bytes) ≡ b →
        ◌≡◌ {A = Result (List ℕ) TopFault} (Ok bytes) (if b then Err (TooBig ScheduleFile) else Ok bytes)
    by true e = let long = ltb-true MOST_BYTES (length bytes) e in absurd (omega (arith, long, fits))
    by false e = refl

-- what isn't read is refused with 2
not_unread : (m : Market) (f : TopFault) → Then (IsPlanFile m None) (IsChecked m) (Err f) → status_of f ≡ 4 → ⊥
not_unread m f (Ok p, (Ok bytes, is, more), checked) z = absurd cc
not_unread m f (Ok p, (Err g, is, e), checked) z = absurd cc
not_unread m f (Err g, (Ok bytes, is, more), e) z = absurd cc
not_unread m f (Err g, (Err h, is, also), e) z =
    let a : h ≡ Read ScheduleFile = same_fault {X = List ℕ} h (Read ScheduleFile) is in
    let b = same_fault g h also in
    let c = same_fault f g e in
    let two : status_of f ≡ 2 = ap status_of (c ∙ b ∙ a) in
    omega (arith, two, z)

there : (m : Market) (read : Option (List ℕ)) (f : TopFault) → Then (IsPlanFile m read) (IsChecked m) (Err f) →
    status_of f ≡ 4 → (bytes : List ℕ) × (read ≡ Some bytes)
there m None f refused z = absurd (not_unread m f refused z)
there m (Some bytes) f refused z = (bytes, refl)

-- the case of a file keeps the limits of one
within_limits : CasesAreWithin → (read : Option (List ℕ)) (m : Market) → IsCaseFile read (Ok m) → IsMarket m
within_limits within read m (Ok bytes, is, found) = within bytes m (case_found m bytes found)
within_limits within read m (Err g, is, e) = absurd cc

module _ (case : CaseFileHasOneValueOrOneFault) (within : CasesAreWithin) (plan : ScheduleFileHasOneValueOrOneFault)
    (exact : FeasibleExactlyWithoutBrokenRule)
    (shape : FeasiblePlansHaveShape) where
  -- over such reads another input would be accepted
  none_there : (reads : Reads) (f : TopFault) → IsInput reads (Err f) → (m : Market) →
      IsCaseFile (reads CaseFile) (Ok m) → (bytes : List ℕ) → reads ScheduleFile ≡ Some bytes →
      length bytes ≤ MOST_BYTES
      → (p : List Schedule) → IsPlanOf m bytes (Ok p) → IsFeasiblePlan m p → ⊥
  none_there reads f due m is_case bytes is_read fits p is_plan feasible =
      let c : PlannedCase = record { market = m; plan = p; cost = plan_cost m p } in
      let none = (exact m p (shape m p feasible)).1 feasible in
      let file : IsPlanFile m (Some bytes) (Ok p) = (Ok bytes, whole bytes fits, (Ok p, is_plan, refl)) in
      let accepted : IsInput reads (Ok c) = (
        Ok m,
        is_case,
        (
          Ok p,
          subst (λ (o : Option (List ℕ)). IsPlanFile m o (Ok p)) (sym is_read) file,
          (feasible, none, refl),
        ),
      ) in
      let e = one_input case plan reads (Err f) (Ok c) due accepted in
      absurd cc

  refused : (w : Result Asked WordFault) (gained short : List ℕ → Type 0) (reads : Reads) (f : TopFault) →
      (command_for w).IsDue reads (Err f) → gained (fault_line f) ⊎ short (fault_line f)
      → IsInput reads (Err f) → status_of f ≡ 4 → HasNoFeasibleSchedule (command_for w) gained short reads
  refused w gained short reads f due lines (Ok m, is_case, more) z =
      let file = there m (reads ScheduleFile) f more z in
      record {
        fault = f;
        status = z;
        due = due;
        written = lines;
        market = m;
        is_case = is_case;
        limits = within_limits within (reads CaseFile) m is_case;
        bytes = file.0;
        is_read = file.1;
        none = none_there reads f (Ok m, is_case, more) m is_case file.0 file.1;
      }
  refused w gained short reads f due lines (Err g, is_case, e) z =
      absurd (case_is_read reads g is_case (ap status_of (sym (same_fault f g e)) ∙ z))

  pub refused_at_4 : (words : List (List ℕ)) (told : List ℕ → Option (List ℕ)) (rose gained short : List ℕ → Type 0)
      (n : ℕ) (reads : Reads) (e : End)
      → AreReads told rose (command_for (words_of words)).name_of reads →
      Ends (command_for (words_of words)) reads gained short e → n ≡ status_at e → n ≡ 4
      → OverReads (command_for (words_of words)) told rose
      (HasNoFeasibleSchedule (command_for (words_of words)) gained short)
  refused_at_4 words told rose gained short n reads done_whole are ends is z = absurd (omega (arith, is, z))
  refused_at_4 words told rose gained short n reads Cut are ends is z = absurd (omega (arith, is, z))
  refused_at_4 words told rose gained short n reads (Refused f) are (inl due, lines) is z =
      let four = sym is ∙ z in (
        reads,
        are,
        refused (words_of words) gained short reads f due lines
            (input_is_refused (words_of words) reads f due four) four,
      )
  refused_at_4 words told rose gained short n reads (Refused f) are (inr m, lines) is z =
      let seven : status_of f ≡ 7 = ap status_of m in absurd (omega (arith, is, z, seven))
