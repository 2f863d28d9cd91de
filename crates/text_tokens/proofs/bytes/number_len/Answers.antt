use Rattle.text_tokens.proofs.Common.{sym, ◌∙◌, arith, is_number_byte}
use Rattle.text_tokens.proofs.Lemmas.{run_ends, run_is_all}
use Rattle.text_tokens.proofs.bytes.number_len.Goals as goal

pub returns-then-not-is_number_byte : goal.returns-then-not-is_number_byte
returns-then-not-is_number_byte c = run_ends is_number_byte c.args.bytes.now c.loop-i.i c.loop-i-test.true
    c.loop-i.invariant (sym c.is_number_byte.ensures ∙ c.if-not-is_number_byte.true)

pub returns : goal.returns
returns c = run_is_all is_number_byte c.args.bytes.now c.loop-i.i (omega arith) c.loop-i.invariant
