use Rattle.unit_table.proofs.Common.{rules, ◌≡◌, Some, FitsSigned, w64, to_z-of_z, live_at, IsUnder, Going}
use Rattle.unit_table.proofs.running_spell.is_any_running_spell_cheaper.Goals as goal

pub returns-then-is_running_spell_of_period_cheaper : goal.returns-then-is_running_spell_of_period_cheaper
returns-then-is_running_spell_of_period_cheaper c =
    let fits_power : FitsSigned w64 c.args.power = search rules in
    let fits_cost : FitsSigned w64 c.args.cost = search rules in
    let found : (r : Going) × (live_at c.args.spells.now c.get.result.now ≡ Some r) × IsUnder c.args.power
    c.args.cost r = simp to_z-of_z at c.if-is_running_spell_of_period_cheaper.ensures in
    (c.get.result.now, found.0, found.1, found.2)
