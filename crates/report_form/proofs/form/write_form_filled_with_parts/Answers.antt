use Rattle.report_form.proofs.Common.{arith, filled}
use Rattle.report_form.proofs.FormLemmas.{goes_first, goes_on, goes_short, goes_same, writes_left, filled_next}
use Rattle.report_form.proofs.FormLemmas.{filled_end}
use Rattle.report_form.proofs.form.write_form_filled_with_parts.Goals as goal

pub loop-part-init : goal.loop-part-init
loop-part-init g c = rw c.new-piece.ensures (goes_first c.args.out.now (filled c.args.form.now c.args.parts.now))

pub returns-in_err-add_text_and_part : goal.returns-in_err-add_text_and_part
returns-in_err-add_text_and_part g c =
    goes_short c.loop-part.piece _ _ _ _ _ c.from_residual.ensures.0
    (filled_next c.loop-part.rest.now c.args.parts.now c.loop-part.part-index _ _ _
    c.cut_form_at_placeholder-cut.ensures.before
    c.cut_form_at_placeholder-cut.ensures.behind (omega arith))
    c.in_err-add_text_and_part.ensures.err c.loop-part.invariant

pub loop-part-preserved : goal.loop-part-preserved
loop-part-preserved g c =
    goes_on c.loop-part.piece _ _ _ _ _
    (filled_next c.loop-part.rest.now c.args.parts.now c.loop-part.part-index _ _ _
    c.cut_form_at_placeholder-cut.ensures.before
    c.cut_form_at_placeholder-cut.ensures.behind (omega arith))
    c.in_ok-add_text_and_part.ensures.ok c.loop-part.invariant

pub returns : goal.returns
returns g c =
    writes_left c.loop-part.piece c.loop-part.rest.now _ _ c.write_buffered_text_and_rest.ensures
    (goes_same (filled_end c.loop-part.rest.now c.args.parts.now c.loop-part.part-index (omega arith))
    c.loop-part.invariant)
