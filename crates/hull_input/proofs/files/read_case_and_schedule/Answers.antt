use Rattle.hull_input.proofs.Common.{err_from_is_err_and, arith, Market, market_of, planned_of, Then, IsCaseFile}
use Rattle.hull_input.proofs.Common.{IsPlanFile, IsChecked}
use Rattle.hull_input.proofs.Lemmas.{unread, unread_is, read_wider, two_reads, are_two_reads, refused_then}
use Rattle.hull_input.proofs.Lemmas.{answer_then}
use Rattle.hull_input.proofs.files.read_case_and_schedule.Goals as goal

pub returns-in_err-case-clause-answers : goal.returns-in_err-case-clause-answers
returns-in_err-case-clause-answers g c =
    let told = g.F.Shelf.told c.args.shelf.now in
    let p = err_from_is_err_and c.from_residual.result c.from_residual.ensures.1 in
    let h = c.in_err-case.ensures.answers in
    let other = unread (told c.args.schedule_name.now) in
    rw (p.1, p.2) (
      two_reads h.0 other,
      are_two_reads told _ c.args.case_name.now c.args.schedule_name.now h.0 other h.1
          (unread_is (told c.args.schedule_name.now) _),
      refused_then (IsCaseFile h.0) (λ (m : Market). Then (IsPlanFile m other) (IsChecked m)) _ h.2,
    )

pub returns-clause-answers : goal.returns-clause-answers
returns-clause-answers g c =
    let told = g.F.Shelf.told c.args.shelf.now in
    let first = c.in_ok-case.ensures.answers in
    let later = c.read_checked_plan.ensures.answers in
    let case_name = c.args.case_name.now in
    let schedule_name = c.args.schedule_name.now in (
      two_reads first.0 later.0,
      are_two_reads told _ case_name schedule_name first.0 later.0
          (read_wider (told case_name) g.F.Shelf.last _ _ _ _ first.0 (omega arith)
          (c.read_checked_plan.ensures.shelf.later case_name) first.1)
          (read_wider (told schedule_name) g.F.Shelf.last _ _ _ _ later.0
          (c.in_ok-case.ensures.shelf.later schedule_name) (omega arith)
          (rw c.in_ok-case.ensures.shelf.told_same at later.1)),
      answer_then (IsCaseFile first.0) (λ (m : Market). Then (IsPlanFile m later.0) (IsChecked m))
          (market_of c.in_ok-case.case) planned_of c.read_checked_plan.result first.2 later.2,
    )
