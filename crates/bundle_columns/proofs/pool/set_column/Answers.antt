use Rattle.bundle_columns.proofs.Common.{arith, sym, ap, ◌∙◌, subst, List, market_of, entries_of, places_in}
use Rattle.bundle_columns.proofs.Common.{schedule_of, AreKept, WeighedSchedule}
use Rattle.bundle_columns.proofs.Pooling.{place_within, unit_count, kept_of, entry_count, over_at}
use Rattle.bundle_columns.proofs.Rescheduling.{kept_rescheduled, kept_set}
use Rattle.bundle_master.specs.Shape.{Shape}
use Rattle.bundle_columns.proofs.pool.set_column.Goals as goal
use Rattle.bundle_columns.proofs.pool.set_column.Goals.{After-get_mut}

kept : (c : After-get_mut) → AreKept (market_of c.args.case.now).periods (places_in c.args.pool.now)
    c.requires.fit.unit.unit
    (entries_of c.get_mut.result.now)
kept c = kept_of (market_of c.args.case.now) (places_in c.args.pool.now) c.args.pool.now.columns.weight
    c.args.pool.now.columns.thermal.items c.args.number c.requires.fit.unit c.get_mut.result.now c.requires.pool.columns
    c.requires.fit.is c.get_mut.ensures.item

pub get_mut-requires : goal.get_mut-requires
get_mut-requires c =
    let m = market_of c.args.case.now in
    let count = unit_count m (places_in c.args.pool.now) c.args.pool.now.columns.weight
    c.args.pool.now.columns.thermal.items c.requires.pool.columns in
    let lt = place_within m.thermal c.args.number c.requires.fit.unit c.requires.fit.is in
    omega (arith, count, lt)

pub write_schedule_of_entry-requires-clause-index : goal.write_schedule_of_entry-requires-clause-index
write_schedule_of_entry-requires-clause-index c =
    let m = market_of c.args.case.now in
    let long = entry_count m.periods (places_in c.args.pool.now) c.requires.fit.unit.unit c.get_mut.result.now
    (kept c) in
    let lt = c.requires.index in
    omega (arith, long, lt)

pub write_schedule_of_entry-requires-clause-horizon : goal.write_schedule_of_entry-requires-clause-horizon
write_schedule_of_entry-requires-clause-horizon c = λ d at.
    over_at (market_of c.args.case.now).periods (places_in c.args.pool.now) c.requires.fit.unit.unit
    c.get_mut.result.now
    c.args.index d (kept c) at ∙ sym c.requires.fit.feasible.schedule.on

pub set_column-requires-clause-unit : goal.set_column-requires-clause-unit
set_column-requires-clause-unit c =
    let m = market_of c.args.case.now in
    let lt = place_within m.thermal c.args.number c.requires.fit.unit c.requires.fit.is in
    let same = c.requires.pool.thermal in
    omega (arith, same, lt)

pub returns : goal.returns
returns c =
    let m = market_of c.args.case.now in
    let places = places_in c.args.pool.now in
    let unit = c.requires.fit.unit in
    let was = kept_of m places c.args.pool.now.columns.weight c.args.pool.now.columns.thermal.items c.args.number unit
    c.get_mut.result.now c.requires.pool.columns c.requires.fit.is c.get_mut.ensures.item in
    let now = subst (λ (es : List WeighedSchedule). AreKept m.periods places unit.unit es)
    (sym c.write_schedule_of_entry.ensures)
    (kept_rescheduled m.periods places unit.unit (entries_of c.get_mut.result.now) c.args.index
    (schedule_of c.args.response.now) c.requires.fit.feasible was) in
    record {
      some = c.requires.pool.some;
      most = c.requires.pool.most;
      columns = kept_set m places c.args.pool.now.columns.weight c.args.pool.now.columns.thermal.items
          c.args.number unit
          c.write_schedule_of_entry.new.entries c.requires.pool.columns c.requires.fit.is now;
      periods = ap (λ (s : Shape). s.periods) c.set_column.ensures ∙ c.requires.pool.periods;
      thermal = ap (λ (s : Shape). s.thermal) c.set_column.ensures ∙ c.requires.pool.thermal;
      places_are = ap (λ (s : Shape). s.places) c.set_column.ensures ∙ c.requires.pool.places_are;
      wanted = c.requires.pool.wanted;
      power = c.copy_powers.ensures ∙ c.requires.pool.power;
      reserve = c.copy_powers-2.ensures ∙ c.requires.pool.reserve;
    }
