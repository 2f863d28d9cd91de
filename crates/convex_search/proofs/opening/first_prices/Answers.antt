use Rattle.convex_search.proofs.Common.{pos, length, ap, sym, ◌∙◌, length-replicate, length-map-range_with_len}
use Rattle.convex_search.proofs.Common.{market_of, start_price, PriceLists, length-map}
use Rattle.convex_search.proofs.opening.first_prices.Goals as goal

pub opening_prices-requires-clause-lengths : goal.opening_prices-requires-clause-lengths
opening_prices-requires-clause-lengths c =
    let m = market_of c.args.case.now in
    ap length c.in_ok-prices.ensures.energy ∙ length-replicate m.periods (pos 0) ∙
    sym (ap length c.in_ok-start.ensures ∙ length-map-range_with_len (start_price m) 0 m.periods)

pub returns : goal.returns
returns c =
    let m = market_of c.args.case.now in
    record {
      within = c.opening_prices.new.into.valid;
      horizon = ap length (ap (λ (π : PriceLists). π.energy) c.opening_prices.ensures) ∙ length-map _ _ ∙
          ap length c.in_ok-start.ensures ∙ length-map-range_with_len (start_price m) 0 m.periods;
    }
