use Rattle.bundle_columns.proofs.Common.{arith, ◌∙◌, market_of, entries_of, places_in, AreKept}
use Rattle.bundle_columns.proofs.Keeping.{some_item}
use Rattle.bundle_columns.proofs.Pooling.{unit_count, kept_of, entry_count}
use Rattle.bundle_columns.proofs.Rescheduling.{kept_set}
use Rattle.bundle_columns.proofs.pool.weigh_columns_of_unit.Goals as goal
use Rattle.bundle_columns.proofs.pool.weigh_columns_of_unit.Goals.{After-get_mut}

kept : (c : After-get_mut) → AreKept (market_of c.args.case.now).periods (places_in c.args.pool.now)
    ((some_item (market_of c.args.case.now).thermal c.args.number c.requires.number).0).unit
    (entries_of c.get_mut.result.now)
kept c =
    let m = market_of c.args.case.now in
    let some = some_item m.thermal c.args.number c.requires.number in
    kept_of m (places_in c.args.pool.now) c.args.pool.now.columns.weight
    c.args.pool.now.columns.thermal.items c.args.number some.0 c.get_mut.result.now c.requires.pool.columns
    some.1 c.get_mut.ensures.item

pub get_mut-requires : goal.get_mut-requires
get_mut-requires c =
    let m = market_of c.args.case.now in
    let count = unit_count m (places_in c.args.pool.now) c.args.pool.now.columns.weight
    c.args.pool.now.columns.thermal.items c.requires.pool.columns in
    let lt = c.requires.number in
    omega (arith, count, lt)

pub redistribute_entry_weights-requires-clause-some : goal.redistribute_entry_weights-requires-clause-some
redistribute_entry_weights-requires-clause-some c =
    let m = market_of c.args.case.now in
    let some = some_item m.thermal c.args.number c.requires.number in
    let long = entry_count m.periods (places_in c.args.pool.now) some.0.unit c.get_mut.result.now
    (kept (goal.at.redistribute_entry_weights-requires-clause-some c).After-get_mut) in
    let least = c.requires.pool.some in
    omega (arith, long, least)

pub redistribute_entry_weights-requires-clause-wanted : goal.redistribute_entry_weights-requires-clause-wanted
redistribute_entry_weights-requires-clause-wanted c =
    let m = market_of c.args.case.now in
    let some = some_item m.thermal c.args.number c.requires.number in
    let long = entry_count m.periods (places_in c.args.pool.now) some.0.unit c.get_mut.result.now
    (kept (goal.at.redistribute_entry_weights-requires-clause-wanted c).After-get_mut) in
    let read = c.read_master_shares.ensures in
    omega (arith, long, read)

pub redistribute_entry_weights-requires-clause-shares : goal.redistribute_entry_weights-requires-clause-shares
redistribute_entry_weights-requires-clause-shares c = (kept (goal.at.redistribute_entry_weights-requires-clause-shares
    c).After-get_mut).mixed.shares

pub returns : goal.returns
returns c =
    let m = market_of c.args.case.now in
    let places = places_in c.args.pool.now in
    let some = some_item m.thermal c.args.number c.requires.number in
    let was = kept_of m places c.args.pool.now.columns.weight c.args.pool.now.columns.thermal.items c.args.number some.0
    c.get_mut.result.now c.requires.pool.columns some.1 c.get_mut.ensures.item in
    record {
      some = c.requires.pool.some;
      most = c.requires.pool.most;
      columns = kept_set m places c.args.pool.now.columns.weight c.args.pool.now.columns.thermal.items c.args.number
          some.0 c.redistribute_entry_weights.new.entries c.requires.pool.columns some.1
          (c.redistribute_entry_weights.ensures.stays m.periods places some.0.unit was);
      periods = c.requires.pool.periods;
      thermal = c.requires.pool.thermal;
      places_are = c.requires.pool.places_are;
      wanted = c.read_master_shares.ensures ∙ c.requires.pool.wanted;
      power = c.requires.pool.power;
      reserve = c.requires.pool.reserve;
    }
