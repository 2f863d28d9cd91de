use Rattle.report_form.proofs.PieceLemmas.{adds_short, adds_whole}
use Rattle.report_form.proofs.pieces.add_bytes.Goals as goal

pub returns-in_err-write_whole : goal.returns-in_err-write_whole
returns-in_err-write_whole g c =
    let same = rw c.if-add.false at c.add.ensures.bytes in
    adds_short c.args.piece.now _ c.args.bytes.now _ c.from_residual.ensures.0
    (rw (c.as_slice.ensures.value, same) at c.in_err-write_whole.ensures.err)

pub returns : goal.returns
returns g c =
    let first = rw c.if-add.false at c.add.ensures.bytes in
    let second = rw c.if-add-2.false at c.add-2.ensures.bytes in
    rw (second, c.clear.ensures) (adds_whole c.args.piece.now c.args.bytes.now _ c.write_whole-2.ensures
    (rw (c.as_slice.ensures.value, first) at c.in_ok-write_whole.ensures.ok))
