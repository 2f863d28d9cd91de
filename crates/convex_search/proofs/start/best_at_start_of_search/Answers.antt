use Rattle.convex_search.proofs.Common.{◌∙◌, subst, sym, rules, FitsSigned, to_z-of_z, market_of, mixture_of, prices_of}
use Rattle.convex_search.proofs.Common.{IsKept, ℕ, ℤ}
use Rattle.uc_model.specs.Limits.{IsWorth}
use Rattle.uc_model.specs.Systems.{IsDualValue}
use Rattle.bundle_columns.proofs.Keeping.{kept_shape, kept_mixture}
use Rattle.convex_search.proofs.Everywhere.{everywhere_same}
use Rattle.gap_proof.specs.MixtureSizes.{IsBound}
use Rattle.std.specs.Int.{w128}
use Rattle.convex_search.proofs.start.best_at_start_of_search.Goals as goal

pub bound_of_mixture-bound-requires-clause-shape : goal.bound_of_mixture-bound-requires-clause-shape
bound_of_mixture-bound-requires-clause-shape c =
    kept_shape (market_of c.args.case.now) _ (mixture_of c.in_ok-mixture.mixture) c.in_ok-mixture.ensures

pub bound_of_mixture-bound-requires-clause-feasible : goal.bound_of_mixture-bound-requires-clause-feasible
bound_of_mixture-bound-requires-clause-feasible c =
    kept_mixture (market_of c.args.case.now) _ (mixture_of c.in_ok-mixture.mixture) c.in_ok-mixture.ensures

pub returns-clause-best : goal.returns-clause-best
returns-clause-best c =
    let m = market_of c.args.case.now in
    let x = mixture_of c.in_ok-mixture.mixture in
    let π = prices_of c.in_ok-prices.prices in
    let fits : FitsSigned w128 c.bound_of_mixture-bound.result = search rules in
    let same = to_z-of_z w128 c.bound_of_mixture-bound.result fits in
    let value_fits : FitsSigned w128 c.value_at-value.result = search rules in
    let value_same = to_z-of_z w128 c.value_at-value.result value_fits in
    record {
      prices = c.in_ok-prices.ensures;
      value = subst (λ (v : ℤ). IsDualValue m π v) (sym value_same) c.value_at-value.ensures.value;
      value_size = subst IsWorth (sym value_same) c.value_at-value.ensures.size;
      mixture = subst (λ (n : ℕ). IsKept m n x) c.len.ensures c.in_ok-mixture.ensures;
      bound = λ other prices. same ∙ c.bound_of_mixture-bound.ensures.bound ∙
          everywhere_same m x π other c.in_ok-prices.ensures prices;
      bound_size = subst IsBound (sym same) c.bound_of_mixture-bound.ensures.limit;
    }
