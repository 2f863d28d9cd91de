use Rattle.text_tokens.proofs.Common.{◌≤◌, ◌^◌, ℕ, subst, ap, ◌∙◌, arith, rules, FitsSigned, w32, value_from}
use Rattle.std.proofs.lemmas.Int.{to_z-of_z}
use Rattle.text_tokens.proofs.Lemmas.{too_many, too_far, short_enough, exponent_is, grown}
use Rattle.text_tokens.proofs.number.number_from_parsed_parts.Goals as goal

pub returns-in_default : goal.returns-in_default
returns-in_default c =
    too_many c.args.negative c.args.whole.now c.args.fraction.now c.args.lowers c.args.power.now c.requires.whole
    c.requires.fraction (grown _ c.args.whole.now c.args.fraction.now c.in_default.ensures.none)

pub returns-in_default-value_with_digits_appended : goal.returns-in_default-value_with_digits_appended
returns-in_default-value_with_digits_appended c =
    too_many c.args.negative c.args.whole.now c.args.fraction.now c.args.lowers c.args.power.now c.requires.whole
    c.requires.fraction (subst (λ (n : ℕ). 10 ^ 30 ≤ value_from n c.args.fraction.now) c.in-Some.ensures.some.0
    c.in_default-value_with_digits_appended.ensures.none)

pub returns-in_default-value_of_digits_within_limit : goal.returns-in_default-value_of_digits_within_limit
returns-in_default-value_of_digits_within_limit c = too_far c.args.negative c.args.whole.now c.args.fraction.now
    c.args.lowers
    c.args.power.now c.in_default-value_of_digits_within_limit.ensures.none

pub returns : goal.returns
returns c =
    let fits : FitsSigned w32 c.exponent_less_fraction_digits-exponent.result = search rules in
    let near = c.in-Some-value_of_digits_within_limit.ensures.some in
    short_enough c.args.negative c.args.whole.now c.args.fraction.now c.args.lowers c.args.power.now
    c.in-Some-value_with_digits_appended.digits _ c.requires.whole c.requires.fraction
    (c.in-Some-value_with_digits_appended.ensures.some.0 ∙ ap (λ (n : ℕ). value_from n c.args.fraction.now)
    c.in-Some.ensures.some.0)
    c.in-Some-value_with_digits_appended.ensures.some.1 (omega (arith, near.0, near.1))
    (to_z-of_z w32 c.exponent_less_fraction_digits-exponent.result fits ∙ exponent_is c.args.lowers c.args.power.now
    c.args.fraction.now
    c.in-Some-value_of_digits_within_limit.written c.exponent_less_fraction_digits-exponent.result near.0
    c.exponent_less_fraction_digits-exponent.ensures)
