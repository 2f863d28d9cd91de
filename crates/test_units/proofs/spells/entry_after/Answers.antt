use Rattle.test_units.proofs.Common.{rules, ◌≡◌, ◌+◌, ◌*◌, ◌+ℤ◌, arith, FitsSigned, w64, ints, to_z-of_z, IsWithinTimes}
use Rattle.test_units.proofs.Lemmas.{cost-is}
use Rattle.test_units.proofs.spells.entry_after.Goals as goal

pub sum_of_costs-requires-clause-a : goal.sum_of_costs-requires-clause-a
sum_of_costs-requires-clause-a c =
    let fits : FitsSigned w64 c.in-Some.ended.cost = search rules in
    let within = c.requires.within c.args.last c.in-Some.ended.cost
    (cost-is c.args.rows.now c.args.last c.in-Some.ended c.in-Some.is) in
    let r : IsWithinTimes 400 c.in-Some.ended.cost =
    record { at_least = omega (arith, ints); at_most = omega (arith, ints) } in
    simp to_z-of_z r

pub returns-then-from-periods_off-clause-bound : goal.returns-then-from-periods_off-clause-bound
returns-then-from-periods_off-clause-bound c =
    let fits : FitsSigned w64 c.in-Some.ended.cost = search rules in
    let fits_start : FitsSigned w64 c.cost_of_start_after.result = search rules in
    let fits_sum : FitsSigned w64 c.sum_of_costs.result = search rules in
    let within = c.requires.within c.args.last c.in-Some.ended.cost
    (cost-is c.args.rows.now c.args.last c.in-Some.ended c.in-Some.is) in
    let sum : c.sum_of_costs.result ≡ c.in-Some.ended.cost +ℤ c.cost_of_start_after.result = simp to_z-of_z at
    c.sum_of_costs.ensures in
    let r : IsWithinTimes (2 * c.args.last + 3) c.sum_of_costs.result =
    record { at_least = omega (arith, ints, sum); at_most = omega (arith, ints, sum) } in
    simp to_z-of_z r
