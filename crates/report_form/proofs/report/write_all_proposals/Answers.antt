use Rattle.report_form.proofs.Common.{arith}
use Rattle.report_form.proofs.RowTexts.{gains_row, exit_row}
use Rattle.report_form.proofs.report.write_all_proposals.Goals as goal

pub returns-in_err-write_proposal_lines : goal.returns-in_err-write_proposal_lines
returns-in_err-write_proposal_lines g c = exit_row c.args.rows.now c.loop-index.index c.index-rows-index.result _
    c.from_residual.ensures.0 (omega arith) c.index-rows-index.is c.in_err-write_proposal_lines.ensures.err
    c.loop-index.invariant

pub loop-index-preserved : goal.loop-index-preserved
loop-index-preserved g c = gains_row c.args.rows.now c.loop-index.index c.index-rows-index.result (omega arith)
    c.index-rows-index.is c.in_ok-write_proposal_lines.ensures.ok c.loop-index.invariant
