use Rattle.text_tokens.proofs.Common.{◌≡◌, ◌≤◌, ℕ, pos, ◌+ℤ◌, ◌<ℤ◌, ◌≤ℤ◌, unsigned_abs, sym, subst, arith, rules, w32}
use Rattle.text_tokens.proofs.Common.{SomeIff, FitsSigned, ints}
use Rattle.text_tokens.proofs.Lemmas.{size_right, size_left}
use Rattle.text_tokens.proofs.decimal.rounded_magnitude.Goals as goal

pub returns-then-power-ge0 : goal.returns-then-power-ge0
returns-then-power-ge0 c =
    let fits : FitsSigned w32 c.args.d.exponent = search rules in
    let le : pos 0 ≤ℤ (c.args.d.exponent +ℤ pos c.args.scale) = grind (arith, ints, c.if-power-ge0.true) in
    let is : c.unsigned_abs-places.result ≡ unsigned_abs (c.args.d.exponent +ℤ pos c.args.scale) =
    omega (arith, ints, c.unsigned_abs-places.ensures.value) in
    subst (λ (n : ℕ). SomeIff c.digits_times_power_of_ten.result (n ≤ c.args.limit) n)
    (sym (size_right c.args.d c.args.scale c.unsigned_abs-places.result le is)) c.digits_times_power_of_ten.ensures

pub returns-else-power-ge0 : goal.returns-else-power-ge0
returns-else-power-ge0 c =
    let fits : FitsSigned w32 c.args.d.exponent = search rules in
    let lt : (c.args.d.exponent +ℤ pos c.args.scale) <ℤ pos 0 = grind (arith, ints, c.if-power-ge0.false) in
    let is : c.unsigned_abs-places.result ≡ unsigned_abs (c.args.d.exponent +ℤ pos c.args.scale) =
    omega (arith, ints, c.unsigned_abs-places.ensures.value) in
    subst (λ (n : ℕ). SomeIff c.digits_divided_by_power_of_ten.result (n ≤ c.args.limit) n)
    (sym (size_left c.args.d c.args.scale c.unsigned_abs-places.result lt is)) c.digits_divided_by_power_of_ten.ensures
