-- What the rest of a command ends in, the command ends in.
use Rattle.hull_engine.proofs.Common.{ℕ, List, Ok, Err, PlannedCase, Reads, Completes, Ends, HasText, Command}
use Rattle.hull_engine.proofs.Common.{rest_with, nothing_read, inl, inr}
use Rattle.hull_command.specs.declared.ready.Purpose.{Purpose}
use Rattle.hull_command.specs.declared.end.End.{End}
use Rattle.hull_command.specs.declared.end.End.TheVariants.{Done, Cut, Refused}

module _ (c : Command) (purpose : Purpose) (input : PlannedCase) (budget ahead : ℕ) (reads : Reads)
    (completes : Completes c reads (rest_with purpose input budget ahead)) (gained short : List ℕ → Type 0) where
  text_of_rest : (P : List ℕ → Type 0) → HasText (rest_with purpose input budget ahead) nothing_read P →
      HasText c reads P
  text_of_rest P (i, due, text, is, p) = (i, completes.due (Ok i) due, text, completes.text i text is, p)

  pub ends_of_rest : (e : End) → Ends (rest_with purpose input budget ahead) nothing_read gained short e
      → Ends c reads gained short e
  ends_of_rest Done h = text_of_rest gained h
  ends_of_rest Cut h = text_of_rest short h
  ends_of_rest (Refused f) (inl due, p) = (inl (completes.due (Err f) due), p)
  ends_of_rest (Refused f) (inr memory, p) = (inr memory, p)
