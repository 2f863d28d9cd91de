use Rattle.bundle_columns.proofs.Common.{arith, market_of, places_in}
use Rattle.bundle_columns.proofs.Pooling.{place_within, unit_count}
use Rattle.bundle_columns.proofs.pool.add_column_if_new.Goals as goal

pub get-requires : goal.get-requires
get-requires c =
    let m = market_of c.args.case.now in
    let count = unit_count m (places_in c.args.pool.now) c.args.pool.now.columns.weight
    c.args.pool.now.columns.thermal.items c.requires.pool.columns in
    let lt = place_within m.thermal c.args.number c.requires.fit.unit c.requires.fit.is in
    omega (arith, count, lt)

pub next_column_index-index-requires : goal.next_column_index-index-requires
next_column_index-index-requires c =
    let m = market_of c.args.case.now in
    let lt = place_within m.thermal c.args.number c.requires.fit.unit c.requires.fit.is in
    let same = c.requires.pool.thermal in
    omega (arith, same, lt)
