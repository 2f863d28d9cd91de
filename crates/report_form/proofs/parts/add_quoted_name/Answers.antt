use Rattle.report_form.proofs.Common.{[], ◌∷◌, flat_map, escaped}
use Rattle.report_form.proofs.Lemmas.{adds_then, adds_exit}
use Rattle.report_form.proofs.parts.add_quoted_name.Goals as goal

pub returns-in_err-add_bytes : goal.returns-in_err-add_bytes
returns-in_err-add_bytes g c =
    adds_exit c.args.piece.now _ (34 ∷ []) _ _ c.from_residual.ensures.0 c.in_err-add_bytes.ensures.err

pub returns-in_err-add_escaped_name_bytes : goal.returns-in_err-add_escaped_name_bytes
returns-in_err-add_escaped_name_bytes g c =
    adds_then c.args.piece.now _ _ (34 ∷ []) _ _
    (adds_exit _ _ (flat_map escaped c.args.name.now) _ _ c.from_residual-in_err-add_escaped_name_bytes.ensures.0
    c.in_err-add_escaped_name_bytes.ensures.err) c.in_ok-add_bytes.ensures.ok

pub returns : goal.returns
returns g c =
    adds_then c.args.piece.now _ _ (34 ∷ []) _ _
    (adds_then _ _ _ (flat_map escaped c.args.name.now) (34 ∷ []) _ c.add_bytes-2.ensures
    c.in_ok-add_escaped_name_bytes.ensures.ok) c.in_ok-add_bytes.ensures.ok
