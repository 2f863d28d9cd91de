use Rattle.law_outcome.proofs.Common.{◌≡◌, ℕ, List, Option, Result, Ok, sym, subst, Asked, WordFault}
use Rattle.law_outcome.proofs.Common.{words_of, TextFollows}
use Rattle.law_outcome.proofs.Common.{command_for, Reads, PlannedCase, TopFault, AreReads, Ends}
use Rattle.hull_command.specs.Outcome.{IsOutcome}
use Rattle.law_outcome.proofs.SameOutput.{Shows, free_shows, same_end}
use Rattle.law_outcome.proofs.laws.runs_print_the_same.Goals as goal

shown : (words : List (List ℕ)) (a : Asked) (told : List ℕ → Option (List ℕ)) (rose gained short : List ℕ → Type 0)
    (n : ℕ) → words_of words ≡ Ok a → IsOutcome words told rose gained short n → Shows a told rose gained short n
shown words a told rose gained short n same h = record {
  reads = h.reads;
  are = subst (λ (v : Result Asked WordFault). AreReads told rose (command_for v).name_of h.reads) same h.are_reads;
  end = h.end;
  ends = subst (λ (v : Result Asked WordFault). Ends (command_for v) h.reads gained short h.end) same h.ends;
  status_is = h.status_is;
}

pub returns : goal.returns
returns g c words words_other a workers old new before after n old_other new_other before_other after_other n_other
    follows same same_other tell h h_other at at_other =
    let due = subst (λ (v : Result Asked WordFault). (reads : Reads) (due other : Result PlannedCase TopFault) →
    (command_for v).IsDue reads due → (command_for v).IsDue reads other → due ≡ other) same
    (c.one_thing_is_due.ensures words) in
    let text = subst (λ (v : Result Asked WordFault). (reads : Reads) (i : PlannedCase) (text other : List ℕ) →
    (command_for v).IsText reads i text → (command_for v).IsText reads i other → text ≡ other) same
    (λ reads i text other. c.one_text_is_right.ensures words reads i text other (subst TextFollows (sym same)
    follows)) in
    let s = shown words a _ _ _ _ n same h in
    let t = free_shows a workers _ _ _ _ n_other (shown words_other _ _ _ _ _ n_other same_other h_other) in
    same_end c.bytes_are_those_read.ensures c.report_bytes_are_its_text.ensures a due text _ _ tell _ _ _ _ _ _ n
    n_other s t at at_other
