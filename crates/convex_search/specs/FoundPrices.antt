-- What a search for convex hull prices finds. The dual is that of Gribik, Hogan and Pope (2007), and
-- the mixture is the pseudo-schedule of the bundle literature (Dubost, Gonzalez and Lemarechal
-- 2005); when a search ends is this project's profile.
use Rattle.std.specs.Prelude.{◌≡◌, ℕ, ◌<◌, ◌≤◌, ◌⊎◌, ℤ, pos, ◌-ℤ◌, ◌*ℤ◌, ◌≤ℤ◌, unsigned_abs, length}
use Rattle.uc_model.specs.Data.{PriceLists, Market}
use Rattle.uc_model.specs.Limits.{ArePrices}
use Rattle.uc_model.specs.PlainUnits.{prices_of}
use Rattle.uc_model.specs.Systems.{IsDualValue}
use Rattle.gap_proof.specs.Mixtures.{MixtureLists, mixture_of, IsMixture, HasMixtureShape}
use Rattle.gap_proof.specs.MixtureBound.{mixture_bound}
use Rattle.gap_proof.specs.MixtureSizes.{IsBound}
use Rattle.convex_search.specs.declared.goals.Goal.{Goal}
use Rattle.convex_search.specs.declared.found.Found.{Found}

-- prices, a mixture, the bound that it gives, and how many rounds were made
pub record FoundPrices : Type 0 where
  pub prices : PriceLists
  pub mixture : MixtureLists
  pub bound : ℤ
  pub made : ℕ

-- what the program keeps of it
abbrev pub found_of : Found → FoundPrices
found_of f = record {
  prices = prices_of f.prices;
  mixture = mixture_of f.mixture;
  bound = f.bound;
  made = f.made;
}

-- prices over the horizon, each within its limits: none below 0 for reserve
pub record ArePricesOver (m : Market) (π : PriceLists) : Type 0 where
  pub within : ArePrices π
  pub horizon : length π.energy ≡ m.periods

-- a radius round any prices that has all prices in it
abbrev pub everywhere : ℤ
everywhere = pos 20000000

-- whether a bound is near a dual value: no further from it than asked for, or than a millionth of
-- its magnitude
abbrev pub IsNear : ℤ → ℤ → ℤ → Type 0
IsNear within bound value =
    ((bound -ℤ value) ≤ℤ within)
    ⊎ ((pos 1000000 *ℤ (bound -ℤ value)) ≤ℤ pos (unsigned_abs value))

-- What a search finds. The prices are within their limits. The mixture has feasible schedules of each
-- thermal unit, whose weights sum to its whole, and the bound is the one that it gives on the dual
-- value of all prices. No more rounds were made than asked for, and fewer only where the bound is
-- near the prices' dual value.
pub record IsFound (m : Market) (g : Goal) (f : FoundPrices) : Type 0 where
  pub prices : ArePricesOver m f.prices
  pub shape : HasMixtureShape m f.mixture
  pub mixture : IsMixture m f.mixture
  pub bound : f.bound ≡ mixture_bound m f.mixture f.prices everywhere
  pub bound_size : IsBound f.bound
  pub made : f.made ≤ g.rounds
  pub near : f.made < g.rounds → (value : ℤ) → IsDualValue m f.prices value →
      IsNear g.within f.bound value
