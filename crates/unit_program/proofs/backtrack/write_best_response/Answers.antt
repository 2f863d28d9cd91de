use Rattle.unit_program.proofs.Common.{rules, ◌≡◌, length, refl, sym, ◌∙◌, arith, ints, to_z-of_z, FitsSigned, w64}
use Rattle.unit_program.proofs.Common.{thermal_of, prices_of, schedule_of, capped, cost_at, IsWithinTimes}
use Rattle.unit_program.proofs.Lemmas.{best_of, least_of, cleared_idle, cleared_zero, end_capped, end_earliest, end_low}
use Rattle.unit_program.proofs.backtrack.write_best_response.Goals as goal

pub earnings_of_cost-into-requires : goal.earnings_of_cost-into-requires
earnings_of_cost-into-requires c =
    let fits : FitsSigned w64 c.args.end.now.cost = search rules in
    let within = c.requires.end.filled.within c.args.end.now.last c.args.end.now.cost c.requires.end.least.ended in
    let r : IsWithinTimes 400 c.args.end.now.cost = record
    { at_least = omega (arith, ints); at_most = omega (arith, ints) } in
    simp to_z-of_z r

pub returns-clause-least : goal.returns-clause-least
returns-clause-least c =
    let u = c.args.unit.now in
    let at = c.requires.end in
    let a = schedule_of c.turn_all_off.new.into.response in
    let b = schedule_of c.write_earlier_spells.new.into.response in
    let T = length c.args.prices.now.energy.items in
    let back = c.write_earlier_spells.ensures.written in
    let on : length c.write_earlier_spells.new.into.response.on.items ≡ T = c.write_earlier_spells.ensures.length ∙
    c.turn_all_off.ensures.length ∙
    c.requires.into in
    let valid = c.write_earlier_spells.new.into.response.valid in
    least_of (thermal_of u) (prices_of c.args.prices.now) T refl (capped at.filled.limits (cost_at c.args.rows.now))
    u.valid.ramp_up.at_least u.valid.ramp_down.at_least at.filled.table.complete c.args.end.now.last c.args.end.now.cost
    a b
    (end_capped c.rows_within_cost_limits_are_kept.ensures.rows (thermal_of u) (prices_of c.args.prices.now) at.most
    c.args.rows.now
    at.filled c.rows_within_cost_limits_are_kept.ensures.amount c.args.end.now.last
    c.args.end.now.cost at.low at.least at.earliest)
    (end_earliest c.rows_within_cost_limits_are_kept.ensures.rows (thermal_of u) (prices_of c.args.prices.now) at.most
    c.args.rows.now
    at.filled c.rows_within_cost_limits_are_kept.ensures.amount c.args.end.now.last
    c.args.end.now.cost at.low at.least at.earliest)
    (cleared_idle (thermal_of u) a c.turn_all_off.ensures.off c.turn_all_off.ensures.power
    c.turn_all_off.ensures.reserve T)
    (back.up_to c.args.end.now.cost at.least.ended) (back.first c.args.end.now.cost at.least.ended) back.later
    (back.zero_off (cleared_zero (thermal_of u) a c.turn_all_off.ensures.off c.turn_all_off.ensures.power
    c.turn_all_off.ensures.reserve)) on
    (valid.power ∙ on) (valid.reserve ∙ on)

pub returns-clause-best : goal.returns-clause-best
returns-clause-best c = (returns-clause-least c).best

pub returns-clause-earned : goal.returns-clause-earned
returns-clause-earned c =
    let u = c.args.unit.now in
    let at = c.requires.end in
    let a = schedule_of c.turn_all_off.new.into.response in
    let b = schedule_of c.write_earlier_spells.new.into.response in
    let T = length c.args.prices.now.energy.items in
    let back = c.write_earlier_spells.ensures.written in
    let on : length c.write_earlier_spells.new.into.response.on.items ≡ T = c.write_earlier_spells.ensures.length ∙
    c.turn_all_off.ensures.length ∙
    c.requires.into in
    let valid = c.write_earlier_spells.new.into.response.valid in
    let fits : FitsSigned w64 c.earnings_of_cost-into.result = search rules in
    let fits_cost : FitsSigned w64 c.args.end.now.cost = search rules in
    let earned = (best_of (thermal_of u) (prices_of c.args.prices.now) T refl
    (capped at.filled.limits (cost_at c.args.rows.now))
    u.valid.ramp_up.at_least u.valid.ramp_down.at_least at.filled.table.complete c.args.end.now.last c.args.end.now.cost
    a b
    (end_capped c.rows_within_cost_limits_are_kept.ensures.rows (thermal_of u) (prices_of c.args.prices.now) at.most
    c.args.rows.now
    at.filled c.rows_within_cost_limits_are_kept.ensures.amount c.args.end.now.last
    c.args.end.now.cost at.low at.least at.earliest)
    (cleared_idle (thermal_of u) a c.turn_all_off.ensures.off c.turn_all_off.ensures.power
    c.turn_all_off.ensures.reserve T)
    (back.up_to c.args.end.now.cost at.least.ended) back.later
    (back.zero_off (cleared_zero (thermal_of u) a c.turn_all_off.ensures.off c.turn_all_off.ensures.power
    c.turn_all_off.ensures.reserve))
    on (valid.power ∙ on) (valid.reserve ∙ on)).1 in
    let negated = simp to_z-of_z at c.earnings_of_cost-into.ensures in
    to_z-of_z w64 _ fits ∙ negated ∙ sym earned

pub write_earlier_spells-requires-clause-within : goal.write_earlier_spells-requires-clause-within
write_earlier_spells-requires-clause-within c =
    let at = c.requires.end in
    record {
      most = at.most;
      filled = at.filled;
      value = c.args.end.now.cost;
      ended = at.least.ended;
      low = end_low c.rows_within_cost_limits_are_kept.ensures.rows (thermal_of c.args.unit.now)
          (prices_of c.args.prices.now) at.most
          c.args.rows.now at.filled c.rows_within_cost_limits_are_kept.ensures.amount c.args.end.now.last
          c.args.end.now.cost at.low
          at.least at.earliest;
    }

pub write_earlier_spells-requires-clause-idle : goal.write_earlier_spells-requires-clause-idle
write_earlier_spells-requires-clause-idle c = cleared_idle (thermal_of c.args.unit.now)
    (schedule_of c.turn_all_off.new.into.response)
    c.turn_all_off.ensures.off c.turn_all_off.ensures.power c.turn_all_off.ensures.reserve c.args.end.now.last
