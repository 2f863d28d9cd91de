use Rattle.report_form.proofs.Common.{arith}
use Rattle.report_form.proofs.Lemmas.{pends_in_list, adds_exit_in_list}
use Rattle.report_form.proofs.pieces.add_list_items.Goals as goal

pub returns-in_err-add : goal.returns-in_err-add
returns-in_err-add g c =
    adds_exit_in_list g.L.Listed.told c.args.items.now c.loop-item.item-index c.item-item.result c.args.piece.now
    c.loop-item.piece _ _ c.from_residual.ensures.0 (omega arith) (rw c.item-item.is at c.in_err-add.ensures.err)
    c.loop-item.invariant

pub loop-item-preserved : goal.loop-item-preserved
loop-item-preserved g c =
    pends_in_list g.L.Listed.told c.args.items.now c.loop-item.item-index c.item-item.result c.args.piece.now
    c.loop-item.piece _ (omega arith) (rw c.item-item.is at c.in_ok-add.ensures.ok) c.loop-item.invariant
