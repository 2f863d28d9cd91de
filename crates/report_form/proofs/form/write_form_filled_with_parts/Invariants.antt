use Rattle.report_form.proofs.Common.{drop, filled}
use Rattle.report_form.proofs.FormLemmas.{Goes}
use Rattle.report_form.proofs.form.write_form_filled_with_parts.Given as goal

-- the form's front with its parts was gained or waits
abbrev pub invariant-loop-part : goal.invariant-loop-part
invariant-loop-part g l = Goes g.S.Sink.held g.S.Sink.faults l.fn.out l.out l.piece
    (filled l.rest (drop l.part-index l.parts)) (filled l.form l.parts)
