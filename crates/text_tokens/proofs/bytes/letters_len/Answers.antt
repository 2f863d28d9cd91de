use Rattle.text_tokens.proofs.Common.{sym, ◌∙◌, arith, is_letter}
use Rattle.text_tokens.proofs.Lemmas.{run_ends, run_is_all}
use Rattle.text_tokens.proofs.bytes.letters_len.Goals as goal

pub returns-then-not-is_letter : goal.returns-then-not-is_letter
returns-then-not-is_letter c = run_ends is_letter c.args.bytes.now c.loop-i.i c.loop-i-test.true c.loop-i.invariant
    (sym c.is_letter.ensures ∙ c.if-not-is_letter.true)

pub returns : goal.returns
returns c = run_is_all is_letter c.args.bytes.now c.loop-i.i (omega arith) c.loop-i.invariant
