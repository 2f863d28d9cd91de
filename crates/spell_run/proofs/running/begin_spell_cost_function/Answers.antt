use Rattle.slope_list.specs.Slopes.{shown}
use Rattle.spell_run.proofs.Common.{rules, pos, to_z-of_z, FitsSigned, IsPoint}
use Rattle.std.specs.Int.{w64}
use Rattle.spell_run.proofs.Lemmas.{frontier_from}
use Rattle.spell_run.proofs.running.begin_spell_cost_function.Goals as goal

pub returns-clause-frontier : goal.returns-clause-frontier
returns-clause-frontier c = λ π.
    let fits : FitsSigned w64 c.power_before_spell.result = search rules in
    let point : IsPoint c.power_before_spell.result (pos 0) (shown c.reset_to_single_power.new.self) = simp to_z-of_z at
    c.reset_to_single_power.ensures.point in
    frontier_from π c.args.first c.args.unit.now.valid c.power_before_spell.ensures.start
    c.power_before_spell.ensures.goes_on point
