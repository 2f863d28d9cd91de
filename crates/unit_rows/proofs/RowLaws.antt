-- Rows of the table, and one of them written.
use Rattle.unit_rows.proofs.Common.{◌≡◌, ℕ, ◌<◌, Option, Some, None, ℤ, ◌≤ℤ◌, List, length, refl, ap, ◌∙◌}
use Rattle.unit_rows.proofs.Common.{get_or-set_same, arith, slice_set, option_map, ints, Ended, HasAtMost, row_at}
use Rattle.unit_rows.proofs.Common.{cost_at}

module _ (rows : List (Option Ended)) (l : ℕ) (e : Ended) (is : row_at rows l ≡ Some e) where
  pub cost-is : cost_at rows l ≡ Some e.cost
  cost-is = cc

-- the row that a cost is of
pub cost_from : (rows : List (Option Ended)) (l : ℕ) (v : ℤ) → cost_at rows l ≡ Some v →
    (r : Ended) × (row_at rows l ≡ Some r) × (r.cost ≡ v)
cost_from rows l v is = elim (row_at rows l) as (λ o. row_at rows l ≡ o →
    option_map (λ (e : Ended). e.cost) o ≡ Some v → (r : Ended) × (row_at rows l ≡ Some r) × (r.cost ≡ v)) [
      | None ↦ λ row cost. cc
      | Some r ↦ λ row cost. (r, row, (cc))
    ] refl is

module _ (rows rows' : List (Option Ended)) (last : ℕ) (e : Ended) (room : last < length rows)
    (set : rows' ≡ slice_set rows last (Some e)) where
  pub written : row_at rows' last ≡ Some e
  written = ap (λ (xs : List (Option Ended)). row_at xs last) set ∙ get_or-set_same rows last (Some e) None room

  pub written_added : HasAtMost (cost_at rows' last) e.cost
  written_added = (e.cost, cost-is rows' last e written, omega (arith, ints))

  -- a cost that is written is no greater than the one before it
  pub written_old : ((r : Ended) → row_at rows last ≡ Some r → e.cost ≤ℤ r.cost) → (v : ℤ) →
      cost_at rows last ≡ Some v → HasAtMost (cost_at rows' last) v
  written_old low v is =
      let r = cost_from rows last v is in
      let below = low r.0 r.1 in
      (e.cost, cost-is rows' last e written, omega (arith, ints))
