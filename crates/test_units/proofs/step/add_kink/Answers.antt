use Rattle.test_units.proofs.Common.{rules, arith, w64, FitsSigned, ints, to_z-of_z}
use Rattle.test_units.proofs.Lemmas.{kink_of_none, can_kink}
use Rattle.test_units.proofs.step.add_kink.Goals as goal

pub returns-then-step-eq0-clause-ok : goal.returns-then-step-eq0-clause-ok
returns-then-step-eq0-clause-ok g c = kink_of_none c.args.step _ (omega (arith, ints))

pub add_reserve-requires-clause-fits : goal.add_reserve-requires-clause-fits
add_reserve-requires-clause-fits g c =
    let price : FitsSigned w64 c.args.step.reserve_price = search rules in
    let cap : FitsSigned w64 c.args.step.cap = search rules in
    let up : FitsSigned w64 c.args.step.ramp_up = search rules in
    simp to_z-of_z (can_kink c.args.step c.requires.step _ c.requires.small)

pub returns-clause-ok : goal.returns-clause-ok
returns-clause-ok g c =
    let price : FitsSigned w64 c.args.step.reserve_price = search rules in
    let cap : FitsSigned w64 c.args.step.cap = search rules in
    let up : FitsSigned w64 c.args.step.ramp_up = search rules in
    simp to_z-of_z at c.add_reserve.ensures.ok
