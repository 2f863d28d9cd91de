use Rattle.hull_report.proofs.Common.{take, flat_map, Gains, market_of, unit_text, settled_of, settled_line}
use Rattle.hull_report.proofs.Lemmas.{all_texts}
use Rattle.hull_report.proofs.settled.write_settled_units.Given as goal

-- the lines before were gained
abbrev pub invariant-loop-number : goal.invariant-loop-number
invariant-loop-number g l = Gains g.S.Sink.held g.S.Sink.faults l.fn.out l.out (flat_map (λ t. t)
    (take l.number (all_texts unit_text (settled_line (settled_of l.settled)) (market_of l.case))))
