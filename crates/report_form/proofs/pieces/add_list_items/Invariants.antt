use Rattle.report_form.proofs.Common.{take, ◌++◌, flat_map, Pends}
use Rattle.report_form.proofs.pieces.add_list_items.Given as goal

-- a front of what stands before was gained, and the rest waits
abbrev pub invariant-loop-item : goal.invariant-loop-item
invariant-loop-item g l = Pends g.S.Sink.held g.S.Sink.faults l.fn.out l.out l.piece
    (l.fn.piece ++ flat_map g.L.Listed.told (take l.item-index l.items))
