use Rattle.text_tokens.proofs.Lemmas.{rounded_is, rounded_only}
use Rattle.text_tokens.proofs.decimal_laws.decimal_rounds_to_nearest_integer.Goals as goal

pub returns : goal.returns
returns c = λ d scale. (rounded_is d scale, λ n h. rounded_only d scale n h)
