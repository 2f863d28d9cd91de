use Rattle.report_read.proofs.Common.{◌≡◌, ℕ, List, length, drop, sym, ap, ◌∙◌, arith, drop_of_length-le, digits_spec}
use Rattle.report_read.proofs.Common.{MOST}
use Rattle.std.proofs.Math.Seq.{drop-length}
use Rattle.report_read.proofs.Steps.{digits_step, digits_stop, digits_end, digits_too_many}
use Rattle.report_read.proofs.numbers.digits_from.Goals as goal

pub returns-then-not-is_ascii_digit : goal.returns-then-not-is_ascii_digit
returns-then-not-is_ascii_digit c =
    let stop = digits_stop c.loop-offset.number c.args.bytes.now c.loop-offset.offset c.loop-offset-test.true
    (sym c.if-not-is_ascii_digit.ensures.value) in
    let whole : digits_spec c.args.first c.args.bytes.now ≡ (c.loop-offset.number, c.bytes_from.result.now) =
    c.loop-offset.invariant ∙ stop ∙ ap (λ (z : List ℕ). (c.loop-offset.number, z)) (sym c.bytes_from.ensures) in
    rw whole c.number_within_limit_and_rest.ensures

pub returns-then-number-gt-MOST_BEFORE_LAST : goal.returns-then-number-gt-MOST_BEFORE_LAST
returns-then-number-gt-MOST_BEFORE_LAST c =
    digits_too_many c.args.first c.loop-offset.number MOST c.args.bytes.now c.args.bytes.now c.loop-offset.offset
    c.loop-offset-test.true (sym c.if-not-is_ascii_digit.ensures.value)
    (omega arith) c.loop-offset.invariant

pub loop-offset-preserved : goal.loop-offset-preserved
loop-offset-preserved c =
    c.loop-offset.invariant ∙ digits_step c.loop-offset.number c.args.bytes.now c.loop-offset.offset
    c.loop-offset-test.true (sym c.if-not-is_ascii_digit.ensures.value)

pub returns : goal.returns
returns c =
    let stop = digits_end c.loop-offset.number c.args.bytes.now c.loop-offset.offset c.loop-offset-test.false in
    let same : drop c.loop-offset.offset c.args.bytes.now ≡ drop (length c.args.bytes.now) c.args.bytes.now =
    drop_of_length-le c.args.bytes.now c.loop-offset-test.false ∙ sym (drop-length c.args.bytes.now) in
    let whole : digits_spec c.args.first c.args.bytes.now ≡ (c.loop-offset.number, c.bytes_from-2.result.now) =
    c.loop-offset.invariant ∙ stop ∙ ap (λ (z : List ℕ). (c.loop-offset.number, z))
    (same ∙ sym c.bytes_from-2.ensures) in
    rw whole c.number_within_limit_and_rest-2.ensures
