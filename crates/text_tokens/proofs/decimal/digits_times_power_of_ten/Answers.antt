use Rattle.text_tokens.proofs.Common.{◌*◌, ◌^◌, ◌≤◌, arith, mul-le-mul_right, mul-le-mul_left}
use Rattle.text_tokens.proofs.Lemmas.{ten_up, ten_some}
use Rattle.text_tokens.proofs.decimal.digits_times_power_of_ten.Goals as goal

pub returns-then-places-gt18 : goal.returns-then-places-gt18
returns-then-places-gt18 c = λ le.
    let p = ten_up 19 c.args.places (omega arith) in
    let one : 1 * 10 ^ c.args.places ≤ c.args.digits * 10 ^ c.args.places =
    mul-le-mul_right (10 ^ c.args.places) (omega arith) in
    omega arith

pub returns-then-digits-from : goal.returns-then-digits-from
returns-then-digits-from c = λ le.
    let p = ten_some c.args.places in
    let one : c.args.digits * 1 ≤ c.args.digits * 10 ^ c.args.places = mul-le-mul_left c.args.digits p in
    omega arith
