use Rattle.hull_words.proofs.Common.{sym, arith}
use Rattle.hull_words.proofs.Lemmas.{can_be_value-first, can_be_value-empty}
use Rattle.hull_words.proofs.word_text.is_value.Goals as goal

pub returns-in-empty : goal.returns-in-empty
returns-in-empty c =
    sym (can_be_value-empty c.args.text.now (omega (arith, c.in-empty.len_below, c.as_bytes.ensures.len)))

pub returns-in-len1-up : goal.returns-in-len1-up
returns-in-len1-up c = rw c.as_bytes.ensures.value
    (can_be_value-first c.args.text.now (omega (arith, c.in-len1-up.len_at_least, c.as_bytes.ensures.len)))
