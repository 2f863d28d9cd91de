use Rattle.unit_program.proofs.Common.{arith, rules, ◌-◌, ◌*◌, ◌<◌, ◌≤◌, List, length, sym, ap, ◌∙◌, subst}
use Rattle.unit_program.proofs.Common.{with_items_is}
use Rattle.unit_program.proofs.Common.{to_z-of_z, FitsSigned, w64, thermal_of}
use Rattle.unit_program.proofs.Common.{prices_of, RunningSpell, HaveRoom, AreTraces, left_at}
use Rattle.unit_program.proofs.Common.{space_of}
use Rattle.unit_program.proofs.Common.{cost_at, first_at, CanBacktrack}
use Rattle.std.specs.Vec.{with_items}
use Rattle.unit_program.proofs.Lemmas.{charge_less, bench_kept}
use Rattle.unit_program.proofs.bench.fill_least_cost_table_for_prices.Goals as goal

pub fill_table-requires-clause-room : goal.fill_table-requires-clause-room
fill_table-requires-clause-room c =
    let periods = length c.args.prices.now.energy.items in
    let points = length c.args.unit.now.points.items in
    let blocks = length c.curve_into.new.into.blocks.items in
    let few : blocks ≤ 2 * (points - 1) = rw c.as_slice.ensures at c.curve_into.ensures.curve.count in
    let less = charge_less periods points blocks few in
    omega (arith, less, c.requires.bench.space)

pub fill_table-requires-clause-have : goal.fill_table-requires-clause-have
fill_table-requires-clause-have c =
    subst (λ (xs : List RunningSpell). HaveRoom (space_of c.args.bench.now.shared.spare) xs)
    (sym c.as_mut_slice.ensures.value) c.requires.bench.room

pub returns-clause-bench : goal.returns-clause-bench
returns-clause-bench c = λ periods points b.
    let lent = c.as_mut_slice.ensures in
    let same = with_items_is c.args.bench.now.spells c.fill_table.new.spells
    (c.fill_table.ensures.same.count_same ∙ lent.len) in
    bench_kept periods points c.args.bench.now
    (record {
      curve = c.curve_into.new.into;
      spells = with_items c.args.bench.now.spells
          c.fill_table.new.spells;
      shared = c.fill_table.new.shared;
      origins = c.fill_table.new.origins;
      roster = c.fill_table.new.roster;
      table = c.fill_table.new.table;
      limits = c.write_cost_limits_by_period.new.limits;
      kept = c.args.bench.now.kept;
    })
    (sym c.curve_into.ensures.room) (ap length same ∙ c.fill_table.ensures.same.count_same ∙ ap length lent.value)
    (λ room have.
    subst (λ (xs : List RunningSpell). HaveRoom room xs) (sym same)
    (c.fill_table.ensures.same.keeps room
    (subst (λ (xs : List RunningSpell). HaveRoom room xs) (sym lent.value) have))) c.fill_table.ensures.spare
    c.fill_table.ensures.same.log_same
    c.fill_table.ensures.same.rows_length c.fill_table.ensures.list c.fill_table.ensures.same.firsts_same
    c.write_cost_limits_by_period.ensures.length b

pub returns-clause-backtracks : goal.returns-clause-backtracks
returns-clause-backtracks c =
    let lent = c.as_mut_slice.ensures in
    let same = with_items_is c.args.bench.now.spells c.fill_table.new.spells
    (c.fill_table.ensures.same.count_same ∙ lent.len) in
    subst (λ (xs : List RunningSpell). CanBacktrack (thermal_of c.args.unit.now) (prices_of c.args.prices.now)
    (length c.args.prices.now.energy.items) (cost_at c.fill_table.new.table.items)
    (first_at c.fill_table.new.table.items) (left_at c.fill_table.new.shared.log.items xs)) (sym same)
    c.fill_table.ensures.backtracks

pub returns-clause-traces : goal.returns-clause-traces
returns-clause-traces c =
    let lent = c.as_mut_slice.ensures in
    let same = with_items_is c.args.bench.now.spells c.fill_table.new.spells
    (c.fill_table.ensures.same.count_same ∙ lent.len) in
    subst (AreTraces c.fill_table.new.shared.log.items) (sym same) c.fill_table.ensures.traces

pub returns-clause-filled : goal.returns-clause-filled
returns-clause-filled c =
    let fits : FitsSigned w64 c.args.most = search rules in
    let limits = rw (to_z-of_z w64 c.args.most fits) at c.write_cost_limits_by_period.ensures.limits in
    c.fill_table.ensures.filled c.args.most limits

pub fill_table-requires-clause-long : goal.fill_table-requires-clause-long
fill_table-requires-clause-long c =
    let bench = c.requires.bench in
    record {
      rows_end = bench.rows;
      spells_end = subst (λ (xs : List RunningSpell). length c.args.prices.now.energy.items < length xs)
          (sym c.as_mut_slice.ensures.value) bench.count;
      firsts_end = bench.roster;
      list_end = bench.origins;
      log_end = bench.log;
    }
