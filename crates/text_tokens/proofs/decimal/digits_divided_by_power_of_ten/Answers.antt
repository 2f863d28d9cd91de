use Rattle.text_tokens.proofs.Common.{◌^◌, sym, arith}
use Rattle.text_tokens.proofs.Lemmas.{ten_up, ten_some, cut_to_none}
use Rattle.text_tokens.proofs.decimal.digits_divided_by_power_of_ten.Goals as goal

pub returns-then-places-gt38 : goal.returns-then-places-gt38
returns-then-places-gt38 c =
    let p = ten_up 39 c.args.places (omega arith) in
    let none = cut_to_none c.args.d.negative c.args.d.digits (10 ^ c.args.places) (omega arith) in
    (omega arith, sym none)

pub pow-requires : goal.pow-requires
pow-requires c = let p = ten_up c.args.places 38 (omega arith) in omega arith

pub nearest_quotient-number-requires-clause-some : goal.nearest_quotient-number-requires-clause-some
nearest_quotient-number-requires-clause-some c = omega (arith, ten_some c.args.places)

pub nearest_quotient-number-requires-clause-fits : goal.nearest_quotient-number-requires-clause-fits
nearest_quotient-number-requires-clause-fits c = let p = ten_up c.args.places 38 (omega arith) in omega arith
