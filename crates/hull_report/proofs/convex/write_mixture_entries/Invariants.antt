use Rattle.hull_report.proofs.Common.{take, flat_map, Gains, share_text}
use Rattle.hull_report.proofs.Lemmas.{share_lines}
use Rattle.hull_report.proofs.convex.write_mixture_entries.Given as goal

-- the entries before were gained
abbrev pub invariant-loop-entry : goal.invariant-loop-entry
invariant-loop-entry g l = Gains g.S.Sink.held g.S.Sink.faults l.fn.out l.out
    (flat_map share_text (take l.entry-index (share_lines l.entries)))
