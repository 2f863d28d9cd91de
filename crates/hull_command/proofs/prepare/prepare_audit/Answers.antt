use Rattle.hull_command.proofs.Common.{Ok, planned_run, audit, audit_asked}
use Rattle.hull_command.specs.Rest.{HasReadied}
use Rattle.hull_command.proofs.Lemmas.{audit_refused, completes_audit, handed_on}
use Rattle.hull_command.proofs.prepare.prepare_audit.Goals as goal

pub returns-in_err-reported-clause-prepared : goal.returns-in_err-reported-clause-prepared
returns-in_err-reported-clause-prepared g c =
    handed_on (HasReadied g.F.Shelf.told g.F.Shelf.faults g.F.Shelf.last c.args.shelf.now c.read_audit_input.new.shelf
    (Ok (audit (audit_asked c.args.words.now))))
    c.from_residual.result c.in_err-reported.field-0.0 c.from_residual.ensures.1 (
      c.in_err-reported.ensures.answers.0,
      c.in_err-reported.ensures.answers.1,
      audit_refused c.in_err-reported.ensures.answers.0 _ c.in_err-reported.ensures.answers.2,
    )

pub returns-clause-prepared : goal.returns-clause-prepared
returns-clause-prepared g c =
    let h = c.in_ok-reported.ensures.answers in
    let x = c.in_ok-reported.reported in (
      h.0,
      h.1,
      completes_audit c.report_bytes_are_its_text.ensures c.args.words.now h.0 h.2.0 (planned_run x.terms) x.report
          x.terms.budget x.terms.ahead h.2.1 h.2.2 h.2.3,
    )
