use Rattle.hull_report.proofs.Common.{◌≡◌, length, take, flat_map, Gains, schedule_of, unit_text, line_of}
use Rattle.hull_report.proofs.Lemmas.{all_texts}
use Rattle.hull_report.proofs.record.write_unit_lines.Given as goal

-- the lines before were gained, and the buffer is over the periods of the case
abbrev pub invariant-loop-number : goal.invariant-loop-number
invariant-loop-number g l = record {
  gained : Gains g.S.Sink.held g.S.Sink.faults l.fn.out l.out (flat_map (λ t. t)
      (take l.number (all_texts unit_text (line_of l.closed l.settlement l.proposal) l.closed.setup.market)));
  horizon : length (schedule_of l.buffer.response).on ≡ l.closed.setup.market.periods;
}
