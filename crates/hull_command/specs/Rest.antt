-- What a command comes to before any run, and what is then left of it.
use Rattle.std.specs.Prelude.{◌≡◌, ⊤, ℕ, List, Option, None, Some, Result, Ok, Err}
use Rattle.gap_proof.specs.PlaneSums.{IsRadius}
use Rattle.hull_io.specs.Edge.{Rose}
use Rattle.hull_words.specs.Asked.{Asked, check, price, try, bound, fixed, audit, settle}
use Rattle.hull_words.specs.Asked.{certify, convex}
use Rattle.hull_words.specs.declared.command.PriceWords.{PriceWords}
use Rattle.hull_words.specs.declared.word_fault.WordFault.{WordFault}
use Rattle.hull_report.specs.TryText.{try_text}
use Rattle.hull_fault.specs.declared.fault.TopFault.{TopFault}
use Rattle.report_form.specs.ReportText.{report_text}
use Rattle.report_read.specs.Plain.{report_of}
use Rattle.board_core.specs.Setups.{IsSetup, setup_of}
use Rattle.hull_input.specs.Answers.{IsFaultOf, HasReads, IsFitReport}
use Rattle.hull_input.specs.Files.{Reads, case_and_schedule}
use Rattle.hull_input.specs.Planned.{PlannedCase, planned_run}
use Rattle.hull_input.specs.Sizes.{IsWorkers}
use Rattle.hull_input.specs.Steps.{Then, IsInput, IsWithinWork}
use Rattle.hull_command.specs.Answers.{IsCommandAnswer, IsEndOf}
use Rattle.hull_command.specs.FurtherSteps.{IsJudged}
use Rattle.hull_command.specs.Outcome.{Command, command_for, no_files, Ends}
use Rattle.hull_command.specs.Outcome.{IsReportText, IsBoundText, IsFixedText, IsAuditText}
use Rattle.hull_command.specs.declared.answer.Answer.{Answer}
use Rattle.hull_command.specs.declared.ready.Before.{Before}
use Rattle.hull_command.specs.declared.ready.Before.TheVariants as befores
use Rattle.hull_command.specs.declared.ready.Ready.{Ready}
use Rattle.hull_command.specs.declared.ready.Purpose.{Purpose}
use Rattle.hull_command.specs.declared.ready.Purpose.TheVariants.{Price, Try, Bound, Fixed, Audit}

-- ---- what is left of a command

-- what may still be due: the input; of an audit that, or the first line at which the report differs
abbrev pub left_of : Purpose → PlannedCase → Result PlannedCase TopFault → Type 0
left_of (Audit report) c due = IsJudged (report_of report) c due
left_of _ c due = due ≡ Ok c

-- and which texts may be printed of it
abbrev pub texts_of : Purpose → (budget ahead : ℕ) → PlannedCase → List ℕ → Type 0
texts_of Price budget ahead = IsReportText report_text budget ahead
texts_of (Try number) budget ahead = IsReportText (try_text number) budget ahead
texts_of (Bound radius) budget ahead = IsBoundText budget ahead radius
texts_of Fixed budget ahead = IsFixedText budget ahead
texts_of (Audit report) budget ahead = IsAuditText (Some (report_text (report_of report)))

-- THE REST: a command that reads no more files
abbrev pub rest_with : Purpose → PlannedCase → (budget ahead : ℕ) → Command
rest_with purpose c budget ahead = record {
  name_of = no_files;
  IsDue = λ reads. left_of purpose c;
  IsText = λ reads. texts_of purpose budget ahead;
}

abbrev pub rest_of : Ready → Command
rest_of ready =
    rest_with ready.purpose (planned_run ready.terms) ready.terms.budget ready.terms.ahead

-- the run of a case and its schedule for this purpose, which such words ask for
abbrev pub run_with : PriceWords → Purpose → Command
run_with w purpose = record {
  name_of = case_and_schedule w.case_name.items w.schedule_name.items;
  IsDue = λ reads. Then (IsInput reads) (IsWithinWork w.proposals);
  IsText = λ reads. texts_of purpose w.proposals w.ahead;
}

-- what the rest of a command comes to, the command comes to, over what was read
pub record Completes (c : Command) (reads : Reads) (rest : Command) : Type 0 where
  pub due : (found : Result PlannedCase TopFault) →
      rest.IsDue reads found → c.IsDue reads found
  pub text : (i : PlannedCase) (text : List ℕ) →
      rest.IsText reads i text → c.IsText reads i text

abbrev pub nothing_read : Reads
nothing_read file = None

-- ---- what is ready

abbrev pub IsFitPurpose : Purpose → Type 0
IsFitPurpose (Bound radius) = IsRadius radius
IsFitPurpose (Audit report) = IsFitReport report
IsFitPurpose _ = ⊤

-- before the text nothing is due but the case and its schedule
abbrev pub IsOfInputAlone : Purpose → Type 0
IsOfInputAlone (Audit report) = ⊥
IsOfInputAlone _ = ⊤

pub record IsReady (ready : Ready) : Type 0 where
  pub setup : IsSetup (setup_of ready.terms)
  pub workers : IsWorkers ready.terms.callers
  pub purpose : IsFitPurpose ready.purpose

-- ---- before a run

-- these words ask for a run
abbrev pub AskForRun : Result Asked WordFault → Type 0
AskForRun (Ok (check a)) = ⊥
AskForRun (Ok (settle a)) = ⊥
AskForRun (Ok (certify a)) = ⊥
AskForRun (Ok (convex a)) = ⊥
AskForRun (Ok (price a)) = ⊤
AskForRun (Ok (try a)) = ⊤
AskForRun (Ok (bound a)) = ⊤
AskForRun (Ok (fixed a)) = ⊤
AskForRun (Ok (audit a)) = ⊤
AskForRun (Err f) = ⊥

-- a run that is ready completes the command; a fault is one that is due, or want of memory
abbrev pub IsReadied : Command → Reads → Result Ready TopFault → Type 0
IsReadied c reads (Ok ready) = Completes c reads (rest_of ready)
IsReadied c reads (Err f) = IsFaultOf (c.IsDue reads) f

module _ {F : Type 0} (told : F → List ℕ → Option (List ℕ)) (faults : F → List ℕ → ℕ)
    (last : Option ℕ) (old new : F) where
  -- the command of such words is answered so over what was read of its files on a shelf, which was
  -- left so
  abbrev pub HasAnswer : Result Asked WordFault → Result Answer TopFault → Type 0
  HasAnswer words answer =
      HasReads (told old) (λ name. Rose last (faults old name) (faults new name))
      (command_for words).name_of (λ reads. IsCommandAnswer (command_for words) reads answer)

  -- and so its run is ready
  abbrev pub HasReadied : Result Asked WordFault → Result Ready TopFault → Type 0
  HasReadied words ready =
      HasReads (told old) (λ name. Rose last (faults old name) (faults new name))
      (command_for words).name_of (λ reads. IsReadied (command_for words) reads ready)

-- BEFORE A RUN of such words, or their refusal: the command has ended as is due over what was read;
-- or the words ask for a run, and what is ready completes the command over what was read
abbrev pub IsBefore : Result Asked WordFault → (told : List ℕ → Option (List ℕ))
    (rose gained short : List ℕ → Type 0) → Before → Type 0
IsBefore words told rose gained short (befores.Ended end) =
    HasReads told rose (command_for words).name_of
    (λ reads. Ends (command_for words) reads gained short end)
IsBefore words told rose gained short (befores.Ready ready) =
    IsReady ready × AskForRun words
    × HasReads told rose (command_for words).name_of
    (λ reads. Completes (command_for words) reads (rest_of ready))

-- what is ready was handed on, or the line of what refused it was written
abbrev pub IsHandedOn : (gained short : List ℕ → Type 0) → Result Ready TopFault → Before → Type 0
IsHandedOn gained short (Ok ready) (befores.Ready other) = other ≡ ready
IsHandedOn gained short (Err f) (befores.Ended end) = IsEndOf gained short (Err f) end
IsHandedOn gained short ready before = ⊥

-- where a run is ready, P
abbrev pub IsUntouched : Before → Type 0 → Type 0
IsUntouched (befores.Ended end) P = ⊤
IsUntouched (befores.Ready ready) P = P
