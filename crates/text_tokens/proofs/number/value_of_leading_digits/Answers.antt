use Rattle.text_tokens.proofs.Common.{◌≡◌, ℕ, true, length, get_or, take, sym, ap, subst, ◌∙◌, arith, inl, inr}
use Rattle.text_tokens.proofs.Common.{cases_lt, is_ascii_digit, value_from, front}
use Rattle.text_tokens.proofs.Lemmas.{run_ends, run_is_all, digit_range, value_takes}
use Rattle.text_tokens.proofs.number.value_of_leading_digits.Goals as goal

pub returns-then-not-is_ascii_digit-clause-len : goal.returns-then-not-is_ascii_digit-clause-len
returns-then-not-is_ascii_digit-clause-len c =
    run_ends is_ascii_digit c.args.bytes.now c.loop-i.i c.loop-i-test.true c.loop-i.invariant.digits
    (sym c.is_ascii_digit.ensures.value ∙ c.if-not-is_ascii_digit.true)

pub returns-then-not-is_ascii_digit-clause-value : goal.returns-then-not-is_ascii_digit-clause-value
unfolding front
returns-then-not-is_ascii_digit-clause-value c =
    let len = run_ends is_ascii_digit c.args.bytes.now c.loop-i.i c.loop-i-test.true c.loop-i.invariant.digits
    (sym c.is_ascii_digit.ensures.value ∙ c.if-not-is_ascii_digit.true) in
    c.loop-i.invariant.so_far ∙ ap (λ (k : ℕ). value_from c.args.before (take k c.args.bytes.now)) len

pub loop-i-preserved : goal.loop-i-preserved
loop-i-preserved c =
    let i = c.loop-i.i in
    let bs = c.args.bytes.now in
    let digit : is_ascii_digit (get_or bs i 0) ≡ true =
    sym c.is_ascii_digit.ensures.value ∙ c.if-not-is_ascii_digit.false in
    let r = digit_range (get_or bs i 0) digit in
    record {
      so_far = omega (arith, c.loop-i.invariant.so_far, value_takes c.args.before bs i c.loop-i-test.true);
      small = omega (arith, r.0, r.1, c.if-n-ge100000000.false);
      digits = λ k lt. elim (cases_lt k i) [
        | inl before ↦ c.loop-i.invariant.digits k before
        | inr behind ↦ subst (λ (j : ℕ). is_ascii_digit (get_or bs j 0) ≡ true) (omega (arith, lt, behind)) digit
      ];
    }

pub returns-clause-len : goal.returns-clause-len
returns-clause-len c = run_is_all is_ascii_digit c.args.bytes.now c.loop-i.i (omega arith) c.loop-i.invariant.digits

pub returns-clause-value : goal.returns-clause-value
unfolding front
returns-clause-value c =
    let bs = c.args.bytes.now in
    let is_all : length bs ≡ c.loop-i.i = omega arith in
    let len = run_is_all is_ascii_digit bs c.loop-i.i is_all c.loop-i.invariant.digits in
    c.loop-i.invariant.so_far ∙ ap (λ (k : ℕ). value_from c.args.before (take k bs)) (sym is_all ∙ len)
