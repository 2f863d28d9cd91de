use Rattle.hull_command.proofs.Common.{rules, sym, subst, w128, to_z-of_z, market_of, schedules_of, mixture_of}
use Rattle.std.proofs.Common.{FitsSigned}
use Rattle.uc_model.specs.Data.{PriceLists}
use Rattle.convex_search.specs.FoundPrices.{found_of}
use Rattle.gap_proof.specs.Mixtures.{HasMixtureShape}
use Rattle.hull_input.specs.declared.input.Input.{Input}
use Rattle.price_settle.specs.Settled.{IsSettledAt, settled_of}
use Rattle.hull_command.proofs.ConvexLaws.{found_and_settled}
use Rattle.hull_command.proofs.convex.find_convex_prices.Goals as goal

pub returns-clause-found : goal.returns-clause-found
returns-clause-found c =
    let f = c.in_ok-found.found in
    let s = c.in_ok-settled.settled in
    let at = c.in_ok-settled.ensures.settled in
    let fits : FitsSigned w128 f.bound = search rules in
    rw (to_z-of_z w128 f.bound fits) (record {
      found = found_and_settled c.args.search.input _ (found_of f) s c.in_ok-settled.ensures.input
          c.in_ok-found.ensures at;
      settled = subst (λ (π : PriceLists). IsSettledAt (market_of s.input.case) (schedules_of s.input.plan) π
          (settled_of s.settled)) (sym at.prices) at;
    })

pub returns-clause-told : goal.returns-clause-told
returns-clause-told c =
    let f = c.in_ok-found.found in
    let fits : FitsSigned w128 f.bound = search rules in
    rw (to_z-of_z w128 f.bound fits) (record {
      settled = c.in_ok-settled.ensures.told;
      shape = subst (λ (y : Input). HasMixtureShape (market_of y.case) (mixture_of f.mixture))
          (sym c.in_ok-settled.ensures.input) c.in_ok-found.ensures.shape;
      bound = c.in_ok-found.ensures.bound_size;
    })
