use Rattle.flat_answer.proofs.Common.{rules, ◌≡◌, ◌+ℤ◌, ◌-ℤ◌, ◌<ℤ◌, FitsSigned, sym, ap, ◌∙◌, arith, ints, to_z-of_z}
use Rattle.flat_answer.proofs.Common.{w64, fits_within, IsWithin, added_gain}
use Rattle.flat_answer.proofs.Lemmas.{counts}
use Rattle.flat_answer.proofs.bids.bid_choice_with_block_added.Goals as goal

above : (c : goal.After-struct_told-1) → c.args.price <ℤ c.args.block.now.price
above c =
    let a = c.ranges.price in
    let b : FitsSigned w64 c.args.block.now.price = search rules in
    let h = c.if-block-price.false in
    omega (arith, ints, h)

gained : (c : goal.After-struct_told-1) → c.earnings_at_gain.result ≡ added_gain c.args.price c.args.block.now
gained c =
    let a = c.ranges.price in
    let b : FitsSigned w64 c.args.block.now.price = search rules in
    let w : FitsSigned w64 c.args.block.now.width = search rules in
    let low = c.requires.price.at_least in
    let high = c.requires.price.at_most in
    let cheap = c.requires.block.price.at_least in
    let dear = c.requires.block.price.at_most in
    let within : IsWithin 20000000 (c.args.block.now.price -ℤ c.args.price) =
    record { at_least = omega (arith, ints, high, cheap); at_most = omega (arith, ints, low, dear) } in
    let f = fits_within w64 20000000 (c.args.block.now.price -ℤ c.args.price) within (omega arith) in
    let e = simp to_z-of_z at c.earnings_at_gain.ensures.value in
    e ∙ sym (counts c.args.price c.args.block.now (above c)).won

sum_fits : (c : goal.After-struct_told-1) → FitsSigned w64 (c.args.so_far.earned +ℤ c.earnings_at_gain.result)
sum_fits c =
    let e = gained c in
    let low = c.requires.earned.at_least in
    let high = c.requires.earned.at_most in
    let within : IsWithin 20000000000000000 (c.args.so_far.earned +ℤ c.earnings_at_gain.result) =
    record { at_least = omega (arith, ints, e, low); at_most = omega (arith, ints, e, high) } in
    fits_within w64 20000000000000000 (c.args.so_far.earned +ℤ c.earnings_at_gain.result) within (omega arith)

pub overflow_add-result-2 : goal.overflow_add-result-2
overflow_add-result-2 c =
    let a : FitsSigned w64 c.args.so_far.earned = search rules in
    let b : FitsSigned w64 c.earnings_at_gain.result = search rules in
    simp to_z-of_z (sum_fits c)

pub returns-clause-earned : goal.returns-clause-earned
returns-clause-earned c =
    let a : FitsSigned w64 c.args.so_far.earned = search rules in
    let b : FitsSigned w64 c.earnings_at_gain.result = search rules in
    let f = sum_fits c in
    simp to_z-of_z (ap (λ z. c.args.so_far.earned +ℤ z) (gained c))

-- (found at once by this search alone, and slowly by all that is tried without an answer)
pub returns-then-block-price-clause-power : goal.returns-then-block-price-clause-power
returns-then-block-price-clause-power c = search rules

pub returns-then-block-price-clause-earned : goal.returns-then-block-price-clause-earned
returns-then-block-price-clause-earned c = search rules

pub overflow_cast-result : goal.overflow_cast-result
overflow_cast-result c = search rules

pub overflow_add-result : goal.overflow_add-result
overflow_add-result c = search rules

pub overflow_sub-block : goal.overflow_sub-block
overflow_sub-block c = search rules

pub earnings_at_gain-requires-clause-gain : goal.earnings_at_gain-requires-clause-gain
earnings_at_gain-requires-clause-gain c = search rules

pub returns-clause-power : goal.returns-clause-power
returns-clause-power c = search rules
