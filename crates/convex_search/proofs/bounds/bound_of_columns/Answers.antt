use Rattle.convex_search.proofs.Common.{market_of, mixture_of, places_in}
use Rattle.bundle_columns.proofs.Keeping.{kept_shape, kept_mixture}
use Rattle.convex_search.proofs.bounds.bound_of_columns.Goals as goal

pub bound_of_mixture-requires-clause-shape : goal.bound_of_mixture-requires-clause-shape
bound_of_mixture-requires-clause-shape c =
    kept_shape (market_of c.args.case.now) (places_in c.args.search.now.pool) (mixture_of
    c.args.search.now.pool.columns)
    c.requires.pool.columns

pub bound_of_mixture-requires-clause-feasible : goal.bound_of_mixture-requires-clause-feasible
bound_of_mixture-requires-clause-feasible c =
    kept_mixture (market_of c.args.case.now) (places_in c.args.search.now.pool) (mixture_of
    c.args.search.now.pool.columns)
    c.requires.pool.columns
