use Rattle.uc_model.proofs.Common.{◌-◌, sym, subst, arith, length-map, Thermal, Flat, Bid, thermal_of}
use Rattle.uc_model.specs.PlainCases.{market_of}
use Rattle.uc_model.specs.PlainUnits.{named_thermal_of, named_renewable_of, named_bid_of, renewable_of, bid_of}
use Rattle.plain_lists.proofs.ListLaws.{map_item}
use Rattle.uc_model.proofs.Lemmas.{IsAt, thermal_is_at, renewable_is_at, bid_is_at}
use Rattle.uc_model.proofs.cases.Case.unit_at.Goals as goal

pub returns-then-number-thermal : goal.returns-then-number-thermal
returns-then-number-thermal c =
    let case = c.args.self.now in
    let named = c.get-named.result.now in
    let at = map_item named_thermal_of case.thermal.items c.args.number named c.get-named.ensures.item in
    let is = subst (IsAt (market_of case) c.args.number (Thermal (thermal_of named.unit))) (sym c.as_str.ensures)
    (thermal_is_at (market_of case) case.valid c.args.number (named_thermal_of named) at) in
    record { unit = is.unit; horizon = is.horizon; name = is.name }

pub returns-then-number-producers : goal.returns-then-number-producers
returns-then-number-producers c =
    let case = c.args.self.now in
    let named = c.get-named-then-number-producers.result.now in
    let k = c.args.number - c.len-thermal.result in
    let at = map_item named_renewable_of case.flat.items k named c.get-named-then-number-producers.ensures.item in
    let long = length-map case.thermal.items named_thermal_of in
    let is = subst (IsAt (market_of case) c.args.number (Flat (renewable_of named.flat)))
    (sym c.as_str-then-number-producers.ensures)
    (renewable_is_at (market_of case) case.valid k c.args.number (named_renewable_of named)
    (omega (arith, c.len-thermal.ensures, long, c.if-number-thermal.false)) at) in
    record { unit = is.unit; horizon = is.horizon; name = is.name }

pub returns : goal.returns
returns c =
    let case = c.args.self.now in
    let named = c.get-named-2.result.now in
    let k = c.args.number - c.producer_count-producers.result in
    let at = map_item named_bid_of case.bids.items k named c.get-named-2.ensures.item in
    let is = subst (IsAt (market_of case) c.args.number (Bid (bid_of named.bid))) (sym c.as_str-2.ensures)
    (bid_is_at (market_of case) case.valid k c.args.number (named_bid_of named)
    (omega (arith, c.producer_count-producers.ensures, c.if-number-producers.false)) at) in
    record { unit = is.unit; horizon = is.horizon; name = is.name }
