use Rattle.convex_search.proofs.Common.{◌≡◌, length, arith, item_of, map_item, market_of}
use Rattle.uc_model.specs.Data.{NamedRenewableUnit}
use Rattle.uc_model.specs.Limits.{IsRenewableUnit}
use Rattle.uc_model.specs.PlainUnits.{named_renewable_of}
use Rattle.convex_search.proofs.start.renewable_range.Goals as goal
use Rattle.convex_search.proofs.start.renewable_range.Goals.{After-get}

over : (c : After-get) → IsRenewableUnit (named_renewable_of c.get.result.now).unit
    × (length (named_renewable_of c.get.result.now).unit.least ≡ (market_of c.args.case.now).periods)
over c =
    let m = market_of c.args.case.now in
    item_of (λ (n : NamedRenewableUnit). IsRenewableUnit n.unit × (length n.unit.least ≡ m.periods)) m.flat
    c.args.number
    (named_renewable_of c.get.result.now) c.args.case.now.valid.flat
    (map_item named_renewable_of c.args.case.now.flat.items c.args.number c.get.result.now c.get.ensures.item)

pub get-requires-2 : goal.get-requires-2
get-requires-2 c =
    let long = (over (goal.at.get-requires-2 c).After-get).1 in
    let lt = c.requires.index in
    omega (arith, long, lt)

pub get-requires-3 : goal.get-requires-3
get-requires-3 c =
    let long = over (goal.at.get-requires-3 c).After-get in
    let both = long.0.lengths in
    let least = long.1 in
    let lt = c.requires.index in
    omega (arith, both, least, lt)
