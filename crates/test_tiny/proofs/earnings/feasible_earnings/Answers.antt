use Rattle.test_tiny.proofs.Common.{rules, arith, to_z-of_z, w64, w128, FitsSigned, fits_within, Thermal, thermal_of}
use Rattle.test_tiny.proofs.Common.{schedule_of, prices_of}
use Rattle.test_tiny.proofs.earnings.feasible_earnings.Goals as goal

fits : (c : goal.After-earnings_of) → FitsSigned w64 c.earnings_of.result
fits c =
    rw c.earnings_of.ensures
    (fits_within w64 3500000000000000000 _
    (c.earnings_are_within.ensures (Thermal (thermal_of c.args.unit.now)) (prices_of c.args.prices.now)
    (schedule_of c.args.response.now) c.args.unit.now.valid c.args.prices.now.valid c.requires.feasible)
    (omega arith))

pub overflow_cast-result : goal.overflow_cast-result
overflow_cast-result c =
    let a : FitsSigned w128 c.earnings_of.result = search rules in
    simp to_z-of_z (fits c)

pub returns : goal.returns
returns c =
    let a : FitsSigned w128 c.earnings_of.result = search rules in
    let f = fits c in
    simp to_z-of_z c.earnings_of.ensures
