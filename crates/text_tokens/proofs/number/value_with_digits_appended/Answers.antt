use Rattle.text_tokens.proofs.Common.{◌^◌, ◌≤◌, ℕ, sym, subst, ◌∙◌, arith}
use Rattle.text_tokens.proofs.Lemmas.{digit_at, value_step, one_more_is_large, no_more}
use Rattle.text_tokens.proofs.number.value_with_digits_appended.Goals as goal

pub overflow_sub-n : goal.overflow_sub-n
overflow_sub-n c = (digit_at c.args.digits.now c.loop-b.b-index c.requires.digits c.loop-b-test.true).0

pub returns-then-n-ge100000000000000000000000000000-clause-none :
    goal.returns-then-n-ge100000000000000000000000000000-clause-none
returns-then-n-ge100000000000000000000000000000-clause-none c =
    subst (λ (n : ℕ). 10 ^ 30 ≤ n) c.loop-b.invariant.so_far
    (one_more_is_large c.loop-b.n c.args.digits.now c.loop-b.b-index c.loop-b-test.true
    c.if-n-ge100000000000000000000000000000.true)

pub loop-b-preserved : goal.loop-b-preserved
loop-b-preserved c =
    let d = digit_at c.args.digits.now c.loop-b.b-index c.requires.digits c.loop-b-test.true in
    record {
      so_far = sym (value_step c.loop-b.n c.args.digits.now c.loop-b.b-index c.loop-b-test.true) ∙
          c.loop-b.invariant.so_far;
      small = omega arith;
    }

pub returns-clause-some : goal.returns-clause-some
returns-clause-some c = (
  sym (no_more c.loop-b.n c.args.digits.now c.loop-b.b-index (omega arith)) ∙ c.loop-b.invariant.so_far,
  c.loop-b.invariant.small,
)
