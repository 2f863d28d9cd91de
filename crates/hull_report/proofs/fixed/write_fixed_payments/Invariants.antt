use Rattle.hull_report.proofs.Common.{take, flat_map, Gains, market_of, told_of, paid_text, paid_start, paid_line}
use Rattle.hull_report.proofs.Lemmas.{all_texts}
use Rattle.hull_report.proofs.fixed.write_fixed_payments.Given as goal

-- the lines before were gained
abbrev pub invariant-loop-number : goal.invariant-loop-number
invariant-loop-number g l = Gains g.S.Sink.held g.S.Sink.faults l.fn.out l.out (flat_map (λ t. t) (take l.number
    (all_texts (λ u. paid_text (paid_start u)) (paid_line (told_of l.hull) (told_of l.fixed)) (market_of l.case))))
