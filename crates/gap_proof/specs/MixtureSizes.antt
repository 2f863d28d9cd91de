-- Sizes of the sums (this project's profile): all are within 10^35.
use Rattle.std.specs.Prelude.{◌<◌, ℕ, ℤ, pos, ◌≤ℤ◌, List, length, map}
use Rattle.std.specs.List.{All}
use Rattle.plain_lists.specs.Sums.{total}
use Rattle.gap_proof.specs.PlaneSums.{IsUpTo}
use Rattle.gap_proof.specs.Mixtures.{WeighedSchedule, most_whole}

-- weights of one unit: none is below 0, and their sum isn't above the greatest whole
pub record AreUnitWeights (entries : List WeighedSchedule) : Type 0 where
  pub from_zero : All (λ (e : WeighedSchedule). pos 0 ≤ℤ e.weight) entries
  pub whole : total (map (λ (e : WeighedSchedule). e.weight) entries) ≤ℤ most_whole

-- each schedule has an entry at an index
abbrev pub AreBehind : ℕ → List WeighedSchedule → Type 0
AreBehind index entries =
    All (λ (e : WeighedSchedule). index < length e.schedule.on) entries

-- kilowatts that one unit gives, each as often as its weight says, and those of all units
abbrev pub IsGivenByOne : ℤ → Type 0
IsGivenByOne x = IsUpTo 4294967296000000000000 x

abbrev pub IsGiven : ℤ → Type 0
IsGiven x = IsUpTo 17600000000000000000000000 x

-- what a mixture lacks of them
abbrev pub IsLack : ℤ → Type 0
IsLack x = IsUpTo 17700000000000000000000000 x

-- what the entries of one unit cost, and those of all units
abbrev pub IsCostOfOne : ℤ → Type 0
IsCostOfOne x = IsUpTo 1700000000000000000000000000000 x

abbrev pub IsMixtureCost : ℤ → Type 0
IsMixtureCost x = IsUpTo 7000000000000000000000000000000000 x

-- what renewable units and bids earn in a period
abbrev pub IsFlat : ℤ → Type 0
IsFlat x = IsUpTo 123000000000000000000 x

-- what an energy price adds in a period, and what a reserve price does
abbrev pub IsAdded : ℤ → Type 0
IsAdded x = IsUpTo 300000000000000000000000000000000 x

abbrev pub IsReserveAdded : ℤ → Type 0
IsReserveAdded x = IsUpTo 177000000000000000000000000000000 x

-- and all sums
abbrev pub IsBound : ℤ → Type 0
IsBound x = IsUpTo 100000000000000000000000000000000000 x
