use Rattle.text_tokens.proofs.Common.{sym, ◌∙◌, arith, is_ascii_digit}
use Rattle.text_tokens.proofs.Lemmas.{run_ends, run_is_all}
use Rattle.text_tokens.proofs.bytes.digits_len.Goals as goal

pub returns-then-not-is_ascii_digit : goal.returns-then-not-is_ascii_digit
returns-then-not-is_ascii_digit c = run_ends is_ascii_digit c.args.bytes.now c.loop-i.i c.loop-i-test.true
    c.loop-i.invariant (sym c.is_ascii_digit.ensures.value ∙ c.if-not-is_ascii_digit.true)

pub returns : goal.returns
returns c = run_is_all is_ascii_digit c.args.bytes.now c.loop-i.i (omega arith) c.loop-i.invariant
