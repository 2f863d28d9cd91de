use Rattle.text_tokens.proofs.Common.{◌+◌, ◌*◌, ◌-◌, get_or, drop, sym, ◌∙◌, value}
use Rattle.text_tokens.proofs.Lemmas.{digit_at, value_step, goes_above}
use Rattle.text_tokens.proofs.number.value_of_digits_within_limit.Goals as goal

pub overflow_sub-n : goal.overflow_sub-n
overflow_sub-n c = (digit_at c.args.digits.now c.loop-b.b-index c.requires.digits c.loop-b-test.true).0

pub returns-then-limit-n-clause-none : goal.returns-then-limit-n-clause-none
returns-then-limit-n-clause-none c =
    goes_above c.args.limit (10 * c.loop-b.n + (get_or c.args.digits.now c.loop-b.b-index 0 - 48))
    (drop (c.loop-b.b-index + 1) c.args.digits.now) (value c.args.digits.now) c.if-limit-n.true
    (sym (value_step c.loop-b.n c.args.digits.now c.loop-b.b-index c.loop-b-test.true) ∙ c.loop-b.invariant.so_far)
