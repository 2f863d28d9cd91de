use Rattle.report_form.proofs.Lemmas.{adds_then, adds_exit}
use Rattle.report_form.proofs.pieces.add_word_and_number.Goals as goal

pub returns-in_err-add_bytes : goal.returns-in_err-add_bytes
returns-in_err-add_bytes g c =
    adds_exit c.args.piece.now _ c.args.word.now _ _ c.from_residual.ensures.0 c.in_err-add_bytes.ensures.err

pub returns : goal.returns
returns g c = adds_then c.args.piece.now _ _ c.args.word.now _ _ c.add_number.ensures c.in_ok-add_bytes.ensures.ok
