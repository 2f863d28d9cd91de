-- Sizes within which no arithmetic of a price move leaves its type (this project's profile).
use Rattle.std.specs.Prelude.{◌≡◌, ℤ, pos, neg_ℤ, ◌≤ℤ◌, length}
use Rattle.std.specs.List.{All}
use Rattle.uc_model.specs.Data.{Market}
use Rattle.plain_lists.specs.Ranges.{IsFrom}
use Rattle.uc_model.specs.Limits.{IsTotal, IsWorth}
use Rattle.uc_model.specs.PriceRule.{Proposal}

-- an entry of a direction: a power less a total
abbrev pub IsEntry : ℤ → Type 0
IsEntry x = IsFrom (neg_ℤ (pos 20000000000000)) (pos 20000000000000) x

-- a row over the market's horizon
pub record IsRowOver (m : Market) (r : Proposal) : Type 0 where
  pub horizon : length r.prices.energy ≡ m.periods
  pub supply : All IsTotal r.supply
  pub reserve : All IsTotal r.reserve

-- and its value is no better than the cost of a plan
pub record IsRowBelow (m : Market) (cost : ℤ) (r : Proposal) : Type 0 where
  pub row : IsRowOver m r
  pub value : IsWorth r.value
  pub at_most : r.value ≤ℤ cost
