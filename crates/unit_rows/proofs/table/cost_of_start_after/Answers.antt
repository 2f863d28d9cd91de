use Rattle.unit_rows.proofs.Common.{rules, pos, arith, ints, to_z-of_z, w64, FitsSigned, IsFrom}
use Rattle.unit_rows.proofs.Lemmas.{start_cost-within}
use Rattle.unit_rows.proofs.table.cost_of_start_after.Goals as goal

pub returns-clause-bound : goal.returns-clause-bound
returns-clause-bound c =
    let fits : FitsSigned w64 c.start_cost.result = search rules in
    let is = c.start_cost.ensures.value in
    let within : IsFrom (pos 0) (pos 10000000000000) c.start_cost.result =
    rw is (start_cost-within c.args.unit.now.lags.items _ c.args.unit.now.valid.lags) in
    simp to_z-of_z (record { at_least = omega (arith, ints); at_most = omega (arith, ints) })
