-- What a search has in hand between its calls (this project's profile).
use Rattle.std.specs.Prelude.{◌≡◌, ℕ, ◌+◌, ◌*◌, ◌≤◌, length}
use Rattle.uc_model.specs.Data.{PriceLists, Market, unit_count}
use Rattle.uc_model.specs.Limits.{IsWorth}
use Rattle.uc_model.specs.PlainUnits.{prices_of, schedule_of}
use Rattle.uc_model.specs.Systems.{IsDualValue}
use Rattle.unit_program.specs.Tops.{IsBenchOver}
use Rattle.gap_proof.specs.Mixtures.{mixture_of}
use Rattle.gap_proof.specs.MixtureBound.{mixture_bound}
use Rattle.gap_proof.specs.MixtureSizes.{IsBound}
use Rattle.convex_search.specs.FoundPrices.{ArePricesOver, everywhere}
use Rattle.bundle_columns.specs.Mixing.{IsKept}
use Rattle.bundle_columns.specs.Pools.{IsPool}
use Rattle.convex_search.specs.declared.best.Best.{Best}
use Rattle.convex_search.specs.declared.oracle.Oracle.{Oracle}
use Rattle.convex_search.specs.declared.search.Search.{Search}

-- room for an answer of any unit, for what each earns, and for what all give
pub record IsOracle (m : Market) (o : Oracle) : Type 0 where
  pub bench : IsBenchOver m o.bench
  pub answer : length (schedule_of o.answer.response).on ≡ m.periods
  pub earned : unit_count m ≤ length o.earned.items + o.earned.spare
  pub given : length o.given.items ≡ 2 * m.periods

-- the best prices with their dual value, and a mixture with the bound that it gives round any prices
pub record IsBestOf (m : Market) (places : ℕ) (b : Best) : Type 0 where
  pub prices : ArePricesOver m (prices_of b.prices)
  pub value : IsDualValue m (prices_of b.prices) b.value
  pub value_size : IsWorth b.value
  pub mixture : IsKept m places (mixture_of b.mixture)
  pub bound : (π : PriceLists) → ArePricesOver m π →
      b.bound ≡ mixture_bound m (mixture_of b.mixture) π everywhere
  pub bound_size : IsBound b.bound

-- all of it
pub record IsSearch (m : Market) (places : ℕ) (s : Search) : Type 0 where
  pub pool : IsPool m places s.pool
  pub oracle : IsOracle m s.oracle
  pub best : IsBestOf m places s.best
  pub asked : ArePricesOver m (prices_of s.asked)
  pub centre : length s.centre.items ≡ 2 * m.periods
  pub point : length s.point.items ≡ 2 * m.periods
  pub trial : length s.trial.items ≡ 2 * m.periods
