use Rattle.std.proofs.Common.{◌*◌, length, ap, vec_capacity}
use Rattle.bundle_master.proofs.Counts.{fresh_is}
use Rattle.bundle_master.proofs.master.make_master.Goals as goal

pub returns : goal.returns
returns c =
    let sizes = c.args.sizes in
    let singles = c.in_ok-singles.singles in
    fresh_is sizes.periods sizes.places sizes.thermal (2 * sizes.periods) sizes.singles c.in_ok-units.units.items
    (length singles.items) (vec_capacity singles) c.in_ok-units.ensures (ap length c.in_ok-singles.ensures.items)
    c.in_ok-singles.ensures.exact
