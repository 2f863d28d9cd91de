use Rattle.hull_input.proofs.Common.{arith, ◌∙◌, report_of, planned_of, IsInput, IsReported, with_report}
use Rattle.hull_input.specs.Answers.{IsReportedAnswer}
use Rattle.hull_input.proofs.Lemmas.{report_refused, work_refused, unread, unread_is, report_added, are_report_added}
use Rattle.hull_input.proofs.Lemmas.{refused_then, fault_handed_on, are_named, read_named}
use Rattle.hull_input.proofs.commands.read_audit_input.Goals as goal

pub run_terms_within_work_limit-requires-clause-size : goal.run_terms_within_work_limit-requires-clause-size
unfolding report_of
run_terms_within_work_limit-requires-clause-size g c =
    let r = c.in_ok-report.ensures.bounds in
    record {
      budget_in = record { at_least = r.budget_at_least; at_most = r.budget_at_most };
      ahead_in = record { at_least = r.ahead_at_least; at_most = r.ahead_at_most };
      callers_in = c.requires;
    }

pub returns-in_err-input-clause-answers : goal.returns-in_err-input-clause-answers
returns-in_err-input-clause-answers g c =
    let words = c.args.words.now in
    let told = g.F.Shelf.told c.args.shelf.now in
    let h = c.in_err-input.ensures.answers in
    let read = unread (told words.report_name.items) in
    fault_handed_on g.F.Shelf.told g.F.Shelf.faults g.F.Shelf.last c.args.shelf.now c.read_case_and_schedule.new.shelf
    (with_report words.case_name.items words.schedule_name.items words.report_name.items) IsReportedAnswer
    c.from_residual.result c.in_err-input.field-0.0 c.from_residual.ensures.1 (report_added h.0 read)
    (are_report_added told g.F.Shelf.last _ _ _ words.case_name.items words.schedule_name.items words.report_name.items
    h.0 read c.in_err-input.ensures.shelf.later (λ any. omega arith)
    (are_named g.F.Shelf.told g.F.Shelf.faults g.F.Shelf.last c.args.shelf.now c.read_case_and_schedule.new.shelf _ _ _
    _
    c.as_str-case_name.ensures c.as_str-schedule_name.ensures h.0 h.1)
    (unread_is (told words.report_name.items) _))
    (refused_then (IsInput h.0) (IsReported (report_added h.0 read)) _ h.2)

pub returns-in_err-report-clause-answers : goal.returns-in_err-report-clause-answers
returns-in_err-report-clause-answers g c =
    let words = c.args.words.now in
    let told = g.F.Shelf.told c.args.shelf.now in
    let h = c.in_ok-input.ensures.answers in
    let k = c.in_err-report.ensures.answers in
    fault_handed_on g.F.Shelf.told g.F.Shelf.faults g.F.Shelf.last c.args.shelf.now c.read_report_file.new.shelf
    (with_report words.case_name.items words.schedule_name.items words.report_name.items) IsReportedAnswer
    c.from_residual-in_err-report.result c.in_err-report.field-0.0 c.from_residual-in_err-report.ensures.1
    (report_added h.0 k.0)
    (are_report_added told g.F.Shelf.last _ _ _ words.case_name.items words.schedule_name.items words.report_name.items
    h.0 k.0 c.in_ok-input.ensures.shelf.later c.in_err-report.ensures.shelf.later
    (are_named g.F.Shelf.told g.F.Shelf.faults g.F.Shelf.last c.args.shelf.now c.read_case_and_schedule.new.shelf _ _ _
    _
    c.as_str-case_name.ensures c.as_str-schedule_name.ensures h.0 h.1)
    (read_named g.F.Shelf.told g.F.Shelf.faults g.F.Shelf.last c.read_case_and_schedule.new.shelf
    c.read_report_file.new.shelf
    told _ _
    c.as_str-report_name.ensures c.in_ok-input.ensures.shelf.told_same k.0 k.1))
    (report_refused (report_added h.0 k.0) (planned_of c.in_ok-input.input) h.2 _ k.2)

pub returns-in_err-terms-clause-answers : goal.returns-in_err-terms-clause-answers
unfolding report_of
returns-in_err-terms-clause-answers g c =
    let words = c.args.words.now in
    let told = g.F.Shelf.told c.args.shelf.now in
    let h = c.in_ok-input.ensures.answers in
    let k = c.in_ok-report.ensures.answers in
    fault_handed_on g.F.Shelf.told g.F.Shelf.faults g.F.Shelf.last c.args.shelf.now c.read_report_file.new.shelf
    (with_report words.case_name.items words.schedule_name.items words.report_name.items) IsReportedAnswer
    c.from_residual-in_err-terms.result c.in_err-terms.field-0.0 c.from_residual-in_err-terms.ensures.1
    (report_added h.0 k.0)
    (are_report_added told g.F.Shelf.last _ _ _ words.case_name.items words.schedule_name.items words.report_name.items
    h.0 k.0 c.in_ok-input.ensures.shelf.later c.in_ok-report.ensures.shelf.later
    (are_named g.F.Shelf.told g.F.Shelf.faults g.F.Shelf.last c.args.shelf.now c.read_case_and_schedule.new.shelf _ _ _
    _
    c.as_str-case_name.ensures c.as_str-schedule_name.ensures h.0 h.1)
    (read_named g.F.Shelf.told g.F.Shelf.faults g.F.Shelf.last c.read_case_and_schedule.new.shelf
    c.read_report_file.new.shelf
    told _ _
    c.as_str-report_name.ensures c.in_ok-input.ensures.shelf.told_same k.0 k.1))
    (work_refused (report_added h.0 k.0) (planned_of c.in_ok-input.input) h.2 (report_of c.in_ok-report.report) k.2 _
    c.in_err-terms.ensures.answers)

pub returns-clause-answers : goal.returns-clause-answers
unfolding report_of
returns-clause-answers g c =
    let words = c.args.words.now in
    let told = g.F.Shelf.told c.args.shelf.now in
    let h = c.in_ok-input.ensures.answers in
    let k = c.in_ok-report.ensures.answers in (
      report_added h.0 k.0,
      are_report_added told g.F.Shelf.last _ _ _ words.case_name.items words.schedule_name.items words.report_name.items
          h.0 k.0 c.in_ok-input.ensures.shelf.later c.in_ok-report.ensures.shelf.later
          (are_named g.F.Shelf.told g.F.Shelf.faults g.F.Shelf.last c.args.shelf.now c.read_case_and_schedule.new.shelf
          _ _ _ _
          c.as_str-case_name.ensures c.as_str-schedule_name.ensures h.0 h.1)
          (read_named g.F.Shelf.told g.F.Shelf.faults g.F.Shelf.last c.read_case_and_schedule.new.shelf
          c.read_report_file.new.shelf told _ _
          c.as_str-report_name.ensures c.in_ok-input.ensures.shelf.told_same k.0 k.1),
      (planned_of c.in_ok-input.input, h.2, k.2, c.in_ok-terms.ensures.answers),
    )

pub returns-clause-fit : goal.returns-clause-fit
returns-clause-fit g c = record {
  setup = c.in_ok-terms.ensures.setup;
  budget = c.in_ok-terms.ensures.budget;
  ahead = c.in_ok-terms.ensures.ahead;
  report = (c.in_ok-report.ensures.bounds, c.in_ok-report.ensures.order);
}

pub returns-clause-shelf : goal.returns-clause-shelf
returns-clause-shelf g c = record {
  told_same = c.in_ok-report.ensures.shelf.told_same ∙ c.in_ok-input.ensures.shelf.told_same;
  later = λ any.
      let early = c.in_ok-input.ensures.shelf.later any in
      let late = c.in_ok-report.ensures.shelf.later any in
      omega (arith, early, late);
}
