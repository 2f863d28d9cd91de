use Rattle.test_units.proofs.Common.{rules, ◌≡◌, length, refl, sym, ◌∙◌, arith, ints, to_z-of_z, FitsSigned, w64}
use Rattle.test_units.proofs.Common.{thermal_of, prices_of, schedule_of, cost_at, IsWithinTimes}
use Rattle.test_units.proofs.Lemmas.{best_of, least_of, cleared_idle, cleared_zero}
use Rattle.test_units.proofs.answer.write_best.Goals as goal

pub earnings_of_cost-into-requires : goal.earnings_of_cost-into-requires
earnings_of_cost-into-requires g c =
    let fits : FitsSigned w64 c.args.end.now.cost = search rules in
    let within = c.requires.filled.within c.args.end.now.last c.args.end.now.cost c.requires.end.ended in
    let r : IsWithinTimes 400 c.args.end.now.cost =
    record { at_least = omega (arith, ints); at_most = omega (arith, ints) } in
    simp to_z-of_z r

pub returns-clause-least : goal.returns-clause-least
returns-clause-least g c =
    let u = c.args.unit.now in
    let a = schedule_of c.turn_all_off.new.into.response in
    let b = schedule_of c.write_back.new.into.response in
    let T = length c.args.prices.now.energy.items in
    let back = c.in_ok-write_back.ensures.written in
    let on : length c.write_back.new.into.response.on.items ≡ T =
    c.write_back.ensures.length ∙ c.turn_all_off.ensures.length ∙ c.requires.into in
    let valid = c.write_back.new.into.response.valid in
    least_of (thermal_of u) (prices_of c.args.prices.now) T refl (cost_at c.args.rows.now)
    u.valid.ramp_up.at_least u.valid.ramp_down.at_least c.requires.filled.table.complete c.args.end.now.last
    c.args.end.now.cost a b c.requires.end c.requires.earliest
    (cleared_idle (thermal_of u) a c.turn_all_off.ensures.off c.turn_all_off.ensures.power
    c.turn_all_off.ensures.reserve T)
    (back.up_to c.args.end.now.cost c.requires.end.ended) (back.first c.args.end.now.cost c.requires.end.ended)
    back.later
    (back.zero_off (cleared_zero (thermal_of u) a c.turn_all_off.ensures.off c.turn_all_off.ensures.power
    c.turn_all_off.ensures.reserve)) on
    (valid.power ∙ on) (valid.reserve ∙ on)

pub returns-clause-best : goal.returns-clause-best
returns-clause-best g c = (returns-clause-least g c).best

pub returns-clause-earned : goal.returns-clause-earned
returns-clause-earned g c =
    let u = c.args.unit.now in
    let a = schedule_of c.turn_all_off.new.into.response in
    let b = schedule_of c.write_back.new.into.response in
    let T = length c.args.prices.now.energy.items in
    let back = c.in_ok-write_back.ensures.written in
    let on : length c.write_back.new.into.response.on.items ≡ T =
    c.write_back.ensures.length ∙ c.turn_all_off.ensures.length ∙ c.requires.into in
    let valid = c.write_back.new.into.response.valid in
    let fits : FitsSigned w64 c.earnings_of_cost-into.result = search rules in
    let fits_cost : FitsSigned w64 c.args.end.now.cost = search rules in
    let earned = (best_of (thermal_of u) (prices_of c.args.prices.now) T refl (cost_at c.args.rows.now)
    u.valid.ramp_up.at_least u.valid.ramp_down.at_least c.requires.filled.table.complete c.args.end.now.last
    c.args.end.now.cost a b c.requires.end
    (cleared_idle (thermal_of u) a c.turn_all_off.ensures.off c.turn_all_off.ensures.power
    c.turn_all_off.ensures.reserve T)
    (back.up_to c.args.end.now.cost c.requires.end.ended) back.later
    (back.zero_off (cleared_zero (thermal_of u) a c.turn_all_off.ensures.off c.turn_all_off.ensures.power
    c.turn_all_off.ensures.reserve))
    on (valid.power ∙ on) (valid.reserve ∙ on)).1 in
    let negated = simp to_z-of_z at c.earnings_of_cost-into.ensures in
    to_z-of_z w64 _ fits ∙ negated ∙ sym earned
