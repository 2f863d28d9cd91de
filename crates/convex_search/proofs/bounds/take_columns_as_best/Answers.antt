use Rattle.convex_search.proofs.Common.{◌≡◌, refl, ◌∙◌, sym, subst, rules, FitsSigned}
use Rattle.convex_search.proofs.Common.{to_z-of_z, market_of, mixture_of, prices_of}
use Rattle.convex_search.proofs.Common.{places_in, MixtureLists, IsKept, everywhere}
use Rattle.convex_search.proofs.Everywhere.{everywhere_same}
use Rattle.gap_proof.specs.MixtureBound.{mixture_bound}
use Rattle.gap_proof.specs.MixtureSizes.{IsBound}
use Rattle.std.specs.Int.{w128}
use Rattle.convex_search.proofs.bounds.take_columns_as_best.Goals as goal

pub returns-clause-search : goal.returns-clause-search
returns-clause-search c =
    let m = market_of c.args.case.now in
    let places = places_in c.args.search.now.pool in
    let was = c.requires.search.best in
    let columns = mixture_of c.args.search.now.pool.columns in
    let copied = c.copy_mixture.ensures in
    let fits : FitsSigned w128 c.args.bound = search rules in
    let same = to_z-of_z w128 c.args.bound fits in
    record {
      pool = c.requires.search.pool;
      oracle = c.requires.search.oracle;
      best = record {
        prices = was.prices;
        value = was.value;
        value_size = was.value_size;
        mixture = subst (λ (x : MixtureLists). IsKept m places x) (sym copied) c.requires.search.pool.columns;
        bound = λ π prices. same ∙ c.requires.bound ∙
            everywhere_same m columns (prices_of c.args.search.now.best.prices) π was.prices prices ∙
            subst (λ (x : MixtureLists). mixture_bound m columns π everywhere ≡ mixture_bound m x π everywhere)
            (sym copied)
            refl;
        bound_size = subst IsBound (sym same) c.requires.size;
      };
      asked = c.requires.search.asked;
      centre = c.requires.search.centre;
      point = c.requires.search.point;
      trial = c.requires.search.trial;
    }
