use Rattle.text_tokens.proofs.Common.{sym, ◌∙◌, said}
use Rattle.text_tokens.proofs.Lemmas.{says_nothing, says_that}
use Rattle.text_tokens.proofs.strings.quoted_or_empty.Goals as goal

pub returns : goal.returns
returns c =
    sym (says_that c.args.bytes.now (said c.in-Some.quoted.bytes.now) c.in-Some.field-0-1 c.in-Some.ensures.some)

pub returns-in_default : goal.returns-in_default
returns-in_default c = c.empty.ensures ∙ sym (says_nothing c.args.bytes.now c.in_default.ensures.none)
