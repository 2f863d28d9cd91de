use Rattle.unit_table.proofs.Common.{state_of}
use Rattle.unit_table.proofs.Common.{shown}
use Rattle.unit_table.proofs.Common.{rules, ◌≡◌, pos, ◌+ℤ◌, ◌≤ℤ◌, Some, to_z, of_z, FitsSigned, w64, OnTrue_from}
use Rattle.unit_table.proofs.Common.{to_z-of_z, value_of, IsUnder, IsWithinTimes}
use Rattle.unit_table.proofs.Lemmas.{under_of}
use Rattle.unit_table.proofs.running_spell.is_spell_cheaper_at_power.Goals as goal

pub sum_of_costs-requires-clause-b : goal.sum_of_costs-requires-clause-b
sum_of_costs-requires-clause-b c =
    let fits : FitsSigned w64 c.in-Some.value = search rules in
    let r : IsWithinTimes 400 c.in-Some.value = c.requires.values (to_z w64 (of_z w64 c.args.power)) c.in-Some.value
    c.in-Some.ensures in
    simp to_z-of_z r

pub returns-in-Some : goal.returns-in-Some
returns-in-Some c =
    let fits_value : FitsSigned w64 c.in-Some.value = search rules in
    let fits_entry : FitsSigned w64 c.args.spell.now.cost = search rules in
    let fits_power : FitsSigned w64 c.args.power = search rules in
    let fits_cost : FitsSigned w64 c.args.cost = search rules in
    let fits_sum : FitsSigned w64 c.sum_of_costs.result = search rules in
    let sum : c.sum_of_costs.result ≡ c.args.spell.now.cost +ℤ c.in-Some.value = simp to_z-of_z at
    c.sum_of_costs.ensures in
    let there : value_of (shown c.args.spell.now.running) c.args.power ≡ Some c.in-Some.value = simp to_z-of_z at
    c.in-Some.ensures in
    OnTrue_from c.is_lesser_cost.result
    (IsUnder c.args.power c.args.cost
    (state_of c.args.spell.now))
    (λ t.
    let less : (c.sum_of_costs.result +ℤ pos 1) ≤ℤ c.args.cost = simp to_z-of_z at (c.is_lesser_cost.ensures t) in
    under_of (shown c.args.spell.now.running) c.args.spell.now.cost c.args.power c.args.cost c.in-Some.value
    c.sum_of_costs.result c.args.spell.now.before there sum less)
