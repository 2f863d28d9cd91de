use Rattle.unit_table.proofs.Common.{shown}
use Rattle.unit_table.proofs.Common.{rules, ◌≡◌, ◌-ℤ◌, ◌∙◌, to_z, of_z, FitsSigned, w64, OnTrue_at, OnTrue_from}
use Rattle.unit_table.proofs.Common.{to_z-of_z, IsBelow}
use Rattle.unit_table.proofs.Lemmas.{below_of}
use Rattle.unit_table.proofs.running_spell.is_dominated_by_later_spell.Goals as goal

pub returns-then-is_min_up_met_by_spell-clause-below : goal.returns-then-is_min_up_met_by_spell-clause-below
returns-then-is_min_up_met_by_spell-clause-below c =
    let late = c.args.late.now in
    let early = c.args.early.now in
    let fits_late : FitsSigned w64 late.cost = search rules in
    let fits_early : FitsSigned w64 early.cost = search rules in
    let fits : FitsSigned w64 c.cost_difference.result = search rules in
    let value : c.cost_difference.result ≡ late.cost -ℤ early.cost = simp to_z-of_z at c.cost_difference.ensures.value
    in
    let shift : to_z w64 (of_z w64 c.cost_difference.result) ≡ late.cost -ℤ early.cost = to_z-of_z w64 _ fits ∙ value in
    OnTrue_from c.is_function_nowhere_above.result
    (IsBelow (shown late.running) late.cost (shown early.running) early.cost)
    (λ t. below_of (shown late.running) (shown early.running) late.cost early.cost _ shift
    (OnTrue_at t c.is_function_nowhere_above.ensures))
