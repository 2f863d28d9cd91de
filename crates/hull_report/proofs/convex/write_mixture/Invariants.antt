use Rattle.hull_report.proofs.Common.{take, flat_map, Gains, market_of, mixture_of, mixture_text, mixture_lines}
use Rattle.hull_report.proofs.convex.write_mixture.Given as goal

-- the mixtures of the units before were gained
abbrev pub invariant-loop-index : goal.invariant-loop-index
invariant-loop-index g l = Gains g.S.Sink.held g.S.Sink.faults l.fn.out l.out
    (flat_map mixture_text (take l.index (mixture_lines (market_of l.case) (mixture_of l.mixture))))
