use Rattle.text_tokens.proofs.Common.{sym, ◌∙◌, arith, is_plain}
use Rattle.text_tokens.proofs.Lemmas.{run_ends, run_is_all}
use Rattle.text_tokens.proofs.bytes.plain_len.Goals as goal

pub returns-then-not-is_unescaped_byte : goal.returns-then-not-is_unescaped_byte
returns-then-not-is_unescaped_byte c = run_ends is_plain c.args.bytes.now c.loop-i.i c.loop-i-test.true
    c.loop-i.invariant
    (sym c.is_unescaped_byte.ensures ∙ c.if-not-is_unescaped_byte.true)

pub returns : goal.returns
returns c = run_is_all is_plain c.args.bytes.now c.loop-i.i (omega arith) c.loop-i.invariant
