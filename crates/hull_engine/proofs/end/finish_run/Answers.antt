use Rattle.hull_engine.proofs.Common.{sym, subst, Gains, FallsShort, HasStatus, report_text}
use Rattle.board_store.specs.Board.{Content}
use Rattle.right_report.specs.RecordReport.{report_of, IsSettledRecord}
use Rattle.uc_model.specs.PriceRule.{Proposal}
use Rattle.price_settle.specs.declared.settlement.Settlement.{Settlement}
use Rattle.hull_engine.proofs.Lemmas.{status_written}
use Rattle.hull_engine.proofs.end.finish_run.Goals as goal

pub returns-clause-report : goal.returns-clause-report
returns-clause-report g c =
    let e = c.run_board-done.ensures in
    let d = c.run_board-done.result in
    let w = c.write_price_report.ensures in
    subst (λ (x : Content). (s : Settlement) × (row : Proposal) × IsSettledRecord x s row
    × HasStatus c.status.result
    (Gains g.S.Sink.held g.S.Sink.faults c.args.out.now c.write_price_report.new.out (report_text (report_of x s)))
    (FallsShort g.S.Sink.held g.S.Sink.faults g.S.Sink.last c.args.out.now c.write_price_report.new.out
    (report_text (report_of x s))))
    (sym w.closed) (
      d.settlement,
      e.row,
      e.settled,
      status_written c.write_price_report.result c.end_of_written_text-end.result c.status.result _ _ w.text.ok
          w.text.err
          c.end_of_written_text-end.ensures.whole c.end_of_written_text-end.ensures.cut c.status.ensures,
    )
