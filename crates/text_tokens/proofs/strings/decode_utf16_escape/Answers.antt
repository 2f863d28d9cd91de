use Rattle.text_tokens.proofs.Common.{ap, sym, ◌∙◌, seen_piece}
use Rattle.text_tokens.proofs.Lemmas.{no_second}
use Rattle.text_tokens.proofs.strings.decode_utf16_escape.Goals as goal

pub returns-in_err-low-clause-is : goal.returns-in_err-low-clause-is
returns-in_err-low-clause-is c = ap seen_piece c.from_residual.ensures ∙
    no_second c.args.unit c.args.bytes.now (sym c.is_high_surrogate.ensures ∙ c.if-is_high_surrogate.true)
    c.in_err-low.ensures.is
