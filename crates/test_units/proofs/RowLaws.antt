-- What is read off rows of two tables, and the row that a cost is of.
use Rattle.test_units.proofs.Common.{◌≡◌, ℕ, Option, Some, None, ℤ, List, refl, ap, option_map, option_map_or, Ended}
use Rattle.test_units.proofs.Common.{row_at, cost_at, first_at, before_at}

module _ (a b : List (Option Ended)) (l k : ℕ) (same : row_at a l ≡ row_at b k) where
  pub cost-same : cost_at a l ≡ cost_at b k
  cost-same = ap (option_map (λ (e : Ended). e.cost)) same

  pub first-same : first_at a l ≡ first_at b k
  first-same = ap (λ (o : Option Ended). option_map_or (λ (e : Ended). e.first) o 0) same

  pub before-same : before_at a l ≡ before_at b k
  before-same = ap (λ (o : Option Ended). option_map_or (λ (e : Ended). e.before) o 0) same

-- the row that a cost is of
pub cost_from : (rows : List (Option Ended)) (l : ℕ) (v : ℤ) → cost_at rows l ≡ Some v →
    (r : Ended) × (row_at rows l ≡ Some r) × (r.cost ≡ v)
cost_from rows l v is = elim (row_at rows l) as (λ o. row_at rows l ≡ o →
    option_map (λ (e : Ended). e.cost) o ≡ Some v → (r : Ended) × (row_at rows l ≡ Some r) × (r.cost ≡ v)) [
      | None ↦ λ row cost. cc
      | Some r ↦ λ row cost. (r, row, (cc))
    ] refl is
