use Rattle.hull_input.proofs.Common.{Result, TopFault, Reads, planned_of, planned_run, IsInput, IsWithinWork, IsAnswer}
use Rattle.hull_input.proofs.Common.{Then, case_and_schedule}
use Rattle.board_core.specs.declared.terms.Terms.{Terms}
use Rattle.hull_input.proofs.Lemmas.{refused_then, answer_then, fault_handed_on, are_named}
use Rattle.hull_input.proofs.commands.read_pricing_run_input.Goals as goal

pub returns-in_err-input-clause-answers : goal.returns-in_err-input-clause-answers
returns-in_err-input-clause-answers g c =
    let words = c.args.words.now in
    let h = c.in_err-input.ensures.answers in
    fault_handed_on g.F.Shelf.told g.F.Shelf.faults g.F.Shelf.last c.args.shelf.now c.read_case_and_schedule.new.shelf
    (case_and_schedule words.case_name.items words.schedule_name.items)
    (λ (reads : Reads) (r : Result Terms TopFault).
    IsAnswer (Then (IsInput reads) (IsWithinWork words.proposals)) planned_run r)
    c.from_residual.result c.in_err-input.field-0.0 c.from_residual.ensures.1 h.0
    (are_named g.F.Shelf.told g.F.Shelf.faults g.F.Shelf.last c.args.shelf.now c.read_case_and_schedule.new.shelf _ _ _
    _
    c.as_str-case_name.ensures c.as_str-schedule_name.ensures h.0 h.1)
    (refused_then (IsInput h.0) (IsWithinWork words.proposals) _ h.2)

pub returns-clause-answers : goal.returns-clause-answers
returns-clause-answers g c =
    let h = c.in_ok-input.ensures.answers in (
      h.0,
      are_named g.F.Shelf.told g.F.Shelf.faults g.F.Shelf.last c.args.shelf.now c.read_case_and_schedule.new.shelf _ _
          _ _
          c.as_str-case_name.ensures c.as_str-schedule_name.ensures h.0 h.1,
      answer_then (IsInput h.0) (IsWithinWork c.args.words.now.proposals) (planned_of c.in_ok-input.input) planned_run
          c.run_terms_within_work_limit.result h.2 c.run_terms_within_work_limit.ensures.answers,
    )
