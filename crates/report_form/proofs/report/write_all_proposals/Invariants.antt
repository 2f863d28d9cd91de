use Rattle.report_form.proofs.Common.{map, take, Gains, proposal_of, rows_text}
use Rattle.report_form.proofs.report.write_all_proposals.Given as goal

-- the rows before were gained
abbrev pub invariant-loop-index : goal.invariant-loop-index
invariant-loop-index g l = Gains g.S.Sink.held g.S.Sink.faults l.fn.out l.out
    (rows_text 1 (take l.index (map proposal_of l.rows)))
