use Rattle.unit_program.proofs.Common.{◌-◌, ◌≤◌, length, sym, ap, ◌∙◌, subst, arith, slice_get-get_or, get_or}
use Rattle.unit_program.proofs.Common.{IsSpellNoted, since, left_of, thermal_of, prices_of, schedule_of}
use Rattle.unit_program.proofs.Lemmas.{written_none, written_first}
use Rattle.unit_program.proofs.NoteLaws.{end_within}
use Rattle.unit_program.proofs.backtrack.write_spell_dispatch.Goals as goal

pub write_least_cost_dispatch_of_spell-requires-clause-noted :
    goal.write_least_cost_dispatch_of_spell-requires-clause-noted
write_least_cost_dispatch_of_spell-requires-clause-noted c =
    let one : 1 ≤ c.args.last = omega arith in
    let item = slice_get-get_or c.args.backtracks.spells.now c.args.first c.index-backtracks-first.result
    c.requires.spells in
    subst (IsSpellNoted (thermal_of c.args.unit.now) (prices_of c.args.prices.now) c.args.first c.args.last)
    (ap (λ o. since c.args.first (left_of c.args.backtracks.log.now o)) item)
    (c.requires.noted one)

pub write_least_cost_dispatch_of_spell-requires-clause-trace :
    goal.write_least_cost_dispatch_of_spell-requires-clause-trace
write_least_cost_dispatch_of_spell-requires-clause-trace c =
    c.requires.traces c.args.first _
    (slice_get-get_or c.args.backtracks.spells.now c.args.first c.index-backtracks-first.result c.requires.spells)

pub write_least_cost_dispatch_of_spell-requires-clause-room :
    goal.write_least_cost_dispatch_of_spell-requires-clause-room
write_least_cost_dispatch_of_spell-requires-clause-room c =
    let one : 1 ≤ c.args.last = omega arith in
    let item = slice_get-get_or c.args.backtracks.spells.now c.args.first c.index-backtracks-first.result
    c.requires.spells in
    let noted = c.requires.noted one in
    let k = c.args.last - 1 - (c.args.first - 1) in
    let trace = (get_or c.args.backtracks.spells.now c.args.first c.index-backtracks-first.result).trace in
    let low = end_within c.args.backtracks.log.now trace.last trace.count k noted.lowest
    (sym (ap (λ o. (left_of c.args.backtracks.log.now o k).end) item) ∙ noted.is_end) in
    omega (arith, low)

pub returns-then-last-gt0-clause-written : goal.returns-then-last-gt0-clause-written
returns-then-last-gt0-clause-written c =
    written_first (thermal_of c.args.unit.now) (prices_of c.args.prices.now) (length c.args.prices.now.energy.items)
    c.args.first c.args.last
    (schedule_of c.args.into.now.response) (schedule_of c.write_least_cost_dispatch_of_spell.new.into.response)
    c.write_least_cost_dispatch_of_spell.ensures.best
    c.write_least_cost_dispatch_of_spell.ensures.on c.write_least_cost_dispatch_of_spell.ensures.outside

pub returns-else-last-gt0-clause-written : goal.returns-else-last-gt0-clause-written
returns-else-last-gt0-clause-written c =
    written_none (thermal_of c.args.unit.now) (prices_of c.args.prices.now) (length c.args.prices.now.energy.items)
    c.args.first c.args.last (schedule_of c.args.into.now.response) c.requires.order (omega arith)
