use Rattle.unit_program.proofs.Common.{◌<◌, List, Option, length, sym, subst, thermal_of, prices_of, RunningSpell}
use Rattle.unit_program.proofs.Common.{Ended}
use Rattle.unit_program.proofs.Common.{IsEndWithin}
use Rattle.unit_program.proofs.bench.Bench.write_best_response_from_table.Goals as goal

pub write_best_response-requires-clause-backtracks : goal.write_best_response-requires-clause-backtracks
write_best_response-requires-clause-backtracks c =
    let u = thermal_of c.args.unit.now in
    let π = prices_of c.args.prices.now in
    let T = length c.args.prices.now.energy.items in
    rw (c.as_slice-spells.ensures.value, c.as_slice-log.ensures, c.as_slice.ensures) c.requires.way.backtracks

pub write_best_response-requires-clause-traces : goal.write_best_response-requires-clause-traces
write_best_response-requires-clause-traces c =
    rw (c.as_slice-spells.ensures.value, c.as_slice-log.ensures) c.requires.way.traces

pub write_best_response-requires-clause-room : goal.write_best_response-requires-clause-room
write_best_response-requires-clause-room c = subst (λ (rows : List (Option Ended)). length
    c.args.prices.now.energy.items <
    length rows) (sym c.as_slice.ensures) c.requires.way.rows

pub write_best_response-requires-clause-spells : goal.write_best_response-requires-clause-spells
write_best_response-requires-clause-spells c = subst
    (λ (xs : List RunningSpell). length c.args.prices.now.energy.items <
    length xs) (sym c.as_slice-spells.ensures.value) c.requires.way.spells

pub write_best_response-requires-clause-end : goal.write_best_response-requires-clause-end
write_best_response-requires-clause-end c = subst (λ (rows : List (Option Ended)). IsEndWithin
    (thermal_of c.args.unit.now)
    (prices_of c.args.prices.now) rows c.args.end.now.last c.args.end.now.cost) (sym c.as_slice.ensures)
    c.requires.way.least
