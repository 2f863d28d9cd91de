use Rattle.report_form.proofs.Lemmas.{adds_then, adds_exit}
use Rattle.report_form.proofs.form.add_text_and_part.Goals as goal

pub returns-in_err-add_bytes : goal.returns-in_err-add_bytes
returns-in_err-add_bytes g c =
    adds_exit c.args.piece.now _ c.args.text.now _ _ c.from_residual.ensures.0 c.in_err-add_bytes.ensures.err

pub returns : goal.returns
returns g c = adds_then c.args.piece.now _ _ c.args.text.now _ _ c.add_form_part.ensures c.in_ok-add_bytes.ensures.ok
