-- The end of a run is its outcome.
use Rattle.hull_command.proofs.Common.{◌≡◌, ℕ, ◌≤◌, List, Option, Result, Ok, Err, inl, inr, sym, subst, Gains}
use Rattle.hull_command.proofs.Common.{FallsShort, Asked, WordFault, TopFault, Words, Reads, Command, command_for, Ends}
use Rattle.hull_command.proofs.Common.{IsFaultOf, IsCommandAnswer, IsEndOf, asked, CaseFile}
use Rattle.hull_command.proofs.Common.{None, Some, ◌∙◌}
use Rattle.hull_command.specs.declared.answer.Answer.{Answer}
use Rattle.hull_command.specs.declared.end.End.{End}
use Rattle.hull_command.specs.declared.end.End.TheVariants.{Done, Cut, Refused}
use Rattle.std.specs.Prelude.{IfOk, IsErrAnd, OnOk, OnErr}
use Rattle.hull_input.specs.Answers.{HasReads}
use Rattle.hull_words.specs.declared.command.Command.{Command as Given}
use Rattle.hull_fault.specs.declared.fault.FileKind.{FileKind}
use Rattle.hull_command.specs.Answers.{IsTextOf}
use Rattle.hull_command.specs.Rest.{AskForRun, IsReadied, IsReady, IsHandedOn, IsBefore}
use Rattle.hull_command.specs.declared.ready.Before.{Before}
use Rattle.hull_command.specs.declared.ready.Before.TheVariants as befores
use Rattle.hull_command.specs.declared.ready.Ready.{Ready}

pub ends_as : (c : Command) (reads : Reads) (gained short : List ℕ → Type 0) (r : Result Answer TopFault) (e : End) →
    IsCommandAnswer c reads r → IsEndOf gained short r e → Ends c reads gained short e
ends_as c reads gained short (Ok a) Done (i, due, texts) (text, is, p) = (i, due, text, texts text is, p)
ends_as c reads gained short (Ok a) Cut (i, due, texts) (text, is, p) = (i, due, text, texts text is, p)
ends_as c reads gained short (Ok a) (Refused f) due p = absurd p
ends_as c reads gained short (Err f) Done due p = absurd p
ends_as c reads gained short (Err f) Cut due p = absurd p
ends_as c reads gained short (Err f) (Refused g) due p = (subst (IsFaultOf (c.IsDue reads)) (sym p.0) due, p.1)

-- a text that was written is the end of its answer
pub end_of_text : {E : Type 0} (gained short : List ℕ → Type 0) (answer : Answer) (written : Result (Unit {0}) E)
    (e : End) (text : List ℕ) → IsTextOf answer text → OnOk written (gained text) → OnErr written (short text)
    → OnOk written (e ≡ Done) → OnErr written (e ≡ Cut) → IsEndOf gained short (Ok answer) e
end_of_text gained short answer (Ok u) e text is whole cut done fell =
    subst (IsEndOf gained short (Ok answer)) (sym done) (text, is, whole)
end_of_text gained short answer (Err f) e text is whole cut done fell =
    subst (IsEndOf gained short (Ok answer)) (sym fell) (text, is, cut)

-- words that are refused
pub refused_words : (w : Result Asked WordFault) (f : WordFault) → w ≡ Err f → (reads : Reads) →
    (command_for w).IsDue reads (Err (Words f))
refused_words (Err g) f e reads = cc
refused_words (Ok a) f e reads = absurd cc

-- no count of the sink falls
module _ {S : Type 0} (held : S → Option (List ℕ)) (faults : S → ℕ) (last : Option ℕ) (old new : S) where
  pub sink_later : (r : Result Answer TopFault) (e : End) →
      IsEndOf (Gains held faults old new) (FallsShort held faults last old new) r e → faults old ≤ faults new
  sink_later (Ok a) Done (text, is, p) = p.later
  sink_later (Ok a) Cut (text, is, p) = p.later
  sink_later (Ok a) (Refused f) p = absurd p
  sink_later (Err f) Done p = absurd p
  sink_later (Err f) Cut p = absurd p
  sink_later (Err f) (Refused g) (same, inl p) = p.later
  sink_later (Err f) (Refused g) (same, inr p) = p.later

-- ---- before a run

-- what is said of a fault is said of what a `?` hands on
pub handed_on : {X : Type 0} (P : Result X TopFault → Type 0) (r : Result X TopFault) (f : TopFault) →
    IsErrAnd r (λ g. g ≡ f) → P (Err f) → P r
handed_on P (Ok x) f h p = absurd h
handed_on P (Err g) f same p = subst (λ (e : TopFault). P (Err e)) (sym same) p

-- an answer that was written ends its command
pub ended_as : (c : Command) (told : List ℕ → Option (List ℕ)) (rose gained short : List ℕ → Type 0)
    (r : Result Answer TopFault) (e : End) → HasReads told rose c.name_of (λ reads. IsCommandAnswer c reads r)
    → IsEndOf gained short r e → HasReads told rose c.name_of (λ reads. Ends c reads gained short e)
ended_as c told rose gained short r e (reads, are, answers) ends =
    (reads, are, ends_as c reads gained short r e answers ends)

-- what is ready and was handed on, or the line of its refusal, is what comes before a run
module _ (w : Result Asked WordFault) (told : List ℕ → Option (List ℕ)) (rose gained short : List ℕ → Type 0) where
  pub handed_as : (p : Result Ready TopFault) (b : Before) → AskForRun w → IfOk p IsReady →
      HasReads told rose (command_for w).name_of (λ reads. IsReadied (command_for w) reads p)
      → IsHandedOn gained short p b → IsBefore w told rose gained short b
  handed_as (Ok r) (befores.Ended e) ask ready (reads, are, completes) p = absurd p
  handed_as (Ok r) (befores.Ready s) ask ready (reads, are, completes) same =
      subst (λ (x : Ready). IsBefore w told rose gained short (befores.Ready x)) (sym same)
      (ready, ask, (reads, are, completes))
  handed_as (Err f) (befores.Ended e) ask ready (reads, are, due) ends =
      (reads, are, ends_as (command_for w) reads gained short (Err f) e due ends)
  handed_as (Err f) (befores.Ready s) ask ready (reads, are, due) p = absurd p

-- what is said of a command is said of any that it is
module _ (a b : Given) (same : a ≡ b) where
  pub before_as : (told : List ℕ → Option (List ℕ)) (rose gained short : List ℕ → Type 0) (before : Before) →
      IsBefore (Ok (asked b)) told rose gained short before → IsBefore (Ok (asked a)) told rose gained short before
  before_as told rose gained short before h =
      subst (λ (x : Given). IsBefore (Ok (asked x)) told rose gained short before) (sym same) h

  -- one that names a case file reads it
  pub never_unread : (name : List ℕ) → (command_for (Ok (asked b))).name_of CaseFile ≡ Some name →
      ((file : FileKind) → (command_for (Ok (asked a))).name_of file ≡ None) → ⊥
  never_unread name some none =
      let none_of : Some name ≡ None = sym some ∙
      subst (λ (x : Given). (command_for (Ok (asked x))).name_of CaseFile ≡ None) same (none CaseFile) in
      cc
