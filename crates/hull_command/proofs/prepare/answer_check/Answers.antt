use Rattle.hull_command.proofs.Common.{Ok, List, ℕ, Option, subst, planned_of, check, Rose}
use Rattle.hull_words.specs.Asked.{check_asked}
use Rattle.hull_input.specs.Files.{AreReads, case_and_schedule}
use Rattle.hull_fault.specs.declared.fault.FileKind.{FileKind}
use Rattle.hull_command.specs.Rest.{HasAnswer}
use Rattle.hull_command.proofs.Lemmas.{handed_on}
use Rattle.hull_command.proofs.prepare.answer_check.Goals as goal

pub returns-in_err-input-clause-answers : goal.returns-in_err-input-clause-answers
returns-in_err-input-clause-answers g c =
    let told = g.F.Shelf.told c.args.shelf.now in
    let h = c.in_err-input.ensures.answers in
    handed_on (HasAnswer g.F.Shelf.told g.F.Shelf.faults g.F.Shelf.last c.args.shelf.now
    c.read_case_and_schedule.new.shelf
    (Ok (check (check_asked c.args.words.now))))
    c.from_residual.result c.in_err-input.field-0.0 c.from_residual.ensures.1 (
      h.0,
      subst (λ (names : FileKind → Option (List ℕ)). AreReads told (λ name. Rose g.F.Shelf.last
          (g.F.Shelf.faults c.args.shelf.now name) (g.F.Shelf.faults c.read_case_and_schedule.new.shelf name)) names
          h.0)
          (λ i. case_and_schedule (c.as_str-case_name.ensures i) (c.as_str-schedule_name.ensures i)) h.1,
      h.2,
    )

pub returns-clause-answers : goal.returns-clause-answers
returns-clause-answers g c =
    let told = g.F.Shelf.told c.args.shelf.now in
    let h = c.in_ok-input.ensures.answers in (
      h.0,
      subst (λ (names : FileKind → Option (List ℕ)). AreReads told (λ name. Rose g.F.Shelf.last
          (g.F.Shelf.faults c.args.shelf.now name) (g.F.Shelf.faults c.read_case_and_schedule.new.shelf name)) names
          h.0)
          (λ i. case_and_schedule (c.as_str-case_name.ensures i) (c.as_str-schedule_name.ensures i)) h.1,
      (planned_of c.in_ok-input.input, h.2, λ text is. is),
    )
