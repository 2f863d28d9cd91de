use Rattle.gap_proof.proofs.Common.{rules, ◌≡◌, ◌+ℤ◌, FitsSigned, arith, ints, to_z-of_z, w128, IsWithin}
use Rattle.gap_proof.proofs.Common.{fits_within, flat, market_of}
use Rattle.gap_proof.proofs.flat.best_earnings_of_renewables_and_bids.Goals as goal

pub returns-clause-value : goal.returns-clause-value
returns-clause-value c =
    let q = c.ranges.price in
    let s : FitsSigned w128 c.best_earnings_of_all_renewables.result = search rules in
    let f : FitsSigned w128 c.best_earnings_of_all_bids.result = search rules in
    let sold = simp to_z-of_z at c.best_earnings_of_all_renewables.ensures.value in
    let bought = simp to_z-of_z at c.best_earnings_of_all_bids.ensures.value in
    let a = c.best_earnings_of_all_renewables.ensures.limit.at_least in
    let b = c.best_earnings_of_all_renewables.ensures.limit.at_most in
    let x = c.best_earnings_of_all_bids.ensures.limit.at_least in
    let y = c.best_earnings_of_all_bids.ensures.limit.at_most in
    let sum : c.best_earnings_of_all_renewables.result +ℤ c.best_earnings_of_all_bids.result ≡ flat
    (market_of c.args.case.now) c.args.index c.args.price =
    omega (arith, ints, sold, bought) in
    let within : IsWithin 123000000000000000000 (c.best_earnings_of_all_renewables.result +ℤ
    c.best_earnings_of_all_bids.result) =
    record { at_least = omega (arith, ints, a, x); at_most = omega (arith, ints, b, y) } in
    let fits =
    fits_within w128 123000000000000000000 (c.best_earnings_of_all_renewables.result +ℤ
    c.best_earnings_of_all_bids.result) within (omega arith) in
    simp to_z-of_z sum
