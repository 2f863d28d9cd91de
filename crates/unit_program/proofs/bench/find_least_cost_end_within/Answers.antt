use Rattle.unit_program.proofs.Common.{rules, length, ap, arith, FitsSigned, w64, to_z-of_z, thermal_of, prices_of}
use Rattle.unit_program.proofs.Lemmas.{found_within, none_found, way_found}
use Rattle.unit_program.proofs.bench.find_least_cost_end_within.Goals as goal

pub least_cost_end_of_horizon-requires-clause-room : goal.least_cost_end_of_horizon-requires-clause-room
least_cost_end_of_horizon-requires-clause-room c =
    let kept = c.fill_least_cost_table_for_prices.ensures.bench (length c.args.prices.now.energy.items)
    (length c.args.unit.now.points.items)
    c.requires.bench in
    let same = ap length c.as_slice.ensures in
    omega (arith, same)

pub returns-clause-some : goal.returns-clause-some
returns-clause-some c =
    let fits : FitsSigned w64 c.args.most = search rules in
    let filled = rw (to_z-of_z w64 c.args.most fits) at c.fill_least_cost_table_for_prices.ensures.filled in
    let taken = rw (to_z-of_z w64 c.args.most fits) at c.end_if_cost_at_most.ensures in
    let told = rw (c.len-periods.ensures, c.as_slice.ensures) at c.least_cost_end_of_horizon.ensures in
    let u = thermal_of c.args.unit.now in
    let π = prices_of c.args.prices.now in
    let new = c.fill_least_cost_table_for_prices.new.bench in
    let fit = c.fill_least_cost_table_for_prices.ensures.bench (length c.args.prices.now.energy.items)
    (length c.args.unit.now.points.items)
    c.requires.bench in
    way_found u π new c.end_if_cost_at_most.result
    (found_within u π c.args.most new.table.items filled c.rows_within_cost_limits_are_kept.ensures.rows
    c.rows_within_cost_limits_are_kept.ensures.amount c.least_cost_end_of_horizon.result c.end_if_cost_at_most.result
    told.some told.earliest told.none
    taken.some
    taken.none) c.fill_least_cost_table_for_prices.ensures.backtracks
    c.fill_least_cost_table_for_prices.ensures.traces fit.rows fit.count

pub returns-clause-none : goal.returns-clause-none
returns-clause-none c =
    let fits : FitsSigned w64 c.args.most = search rules in
    let filled = rw (to_z-of_z w64 c.args.most fits) at c.fill_least_cost_table_for_prices.ensures.filled in
    let taken = rw (to_z-of_z w64 c.args.most fits) at c.end_if_cost_at_most.ensures in
    let told = rw (c.len-periods.ensures, c.as_slice.ensures) at c.least_cost_end_of_horizon.ensures in
    none_found (thermal_of c.args.unit.now) (prices_of c.args.prices.now) c.args.most
    c.fill_least_cost_table_for_prices.new.bench.table.items
    filled c.rows_within_cost_limits_are_kept.ensures.rows c.rows_within_cost_limits_are_kept.ensures.amount
    c.least_cost_end_of_horizon.result c.end_if_cost_at_most.result
    told.some told.earliest told.none taken.some taken.none
