use Rattle.convex_search.proofs.Common.{ℤ, sym, subst, ◌∙◌, market_of, prices_of, everywhere, IsNear, rules, FitsSigned}
use Rattle.convex_search.proofs.Common.{to_z-of_z}
use Rattle.convex_search.proofs.JsonTextHasOneValue.{one_value}
use Rattle.gap_proof.specs.MixtureSizes.{IsBound}
use Rattle.std.specs.Int.{w128}
use Rattle.convex_search.proofs.find.finish_search.Goals as goal

pub returns : goal.returns
returns c =
    let m = market_of c.args.case.now in
    let best = c.requires.search.best in
    let π = prices_of c.args.search.best.prices in
    let fits : FitsSigned w128 c.args.search.best.bound = search rules in
    let bound = to_z-of_z w128 c.args.search.best.bound fits in
    record {
      prices = best.prices;
      shape = c.in_ok-mixture.ensures.shape;
      mixture = c.in_ok-mixture.ensures.mixture;
      bound = bound ∙ best.bound π best.prices ∙ sym (c.in_ok-mixture.ensures.bound π everywhere);
      bound_size = subst IsBound (sym bound) best.bound_size;
      made = c.requires.made;
      near = λ lt value dual. subst (λ (b : ℤ). IsNear c.args.goal.within b value) (sym bound)
          (subst (λ (v : ℤ). IsNear c.args.goal.within c.args.search.best.bound v)
          (one_value m π c.args.search.best.value value best.value dual) (c.requires.near lt));
    }
