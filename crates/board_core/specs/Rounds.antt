-- Rows and prices read off the tallies of a board.
use Rattle.std.specs.Prelude.{◌≡◌, ℕ, suc, ◌+◌, ◌-◌, ◌<◌, ◌≤◌, ℤ, ◌-ℤ◌, Bool, true, not, ◌&&◌, ◌==◌}
use Rattle.std.specs.Prelude.{if◌then◌else◌, nat_lt, List, [], ◌∷◌, ◌++◌, length, map, slice_index}
use Rattle.std.specs.Prelude.{slice_index_or}
use Rattle.std.specs.List.{range_with_len}
use Rattle.board_store.specs.Board.{Setup, rules_of}
use Rattle.board_store.specs.Rounds.{rows_by, prices_by, opened_in}
use Rattle.uc_model.specs.Data.{Market, PriceLists}
use Rattle.price_space.specs.Moves.{is_last_settled}
use Rattle.uc_model.specs.PriceRule.{Proposal, next_prices, no_prices}
use Rattle.plain_lists.specs.Sums.{int_at}
use Rattle.uc_model.specs.Systems.{worth_of_demand}

-- every unit of proposal n has an answer
abbrev pub is_full : ℕ → List ℕ → ℕ → Bool
is_full units counts n = slice_index counts (n - 1) == units

-- what the answers of each proposal earn, and the totals of their powers and of their reserves
pub record Sums : Type 0 where
  pub earned : List ℤ
  pub supply : List (List ℤ)
  pub reserve : List (List ℤ)

-- the row of proposal n at prices
abbrev pub row_in : Market → Sums → PriceLists → ℕ → Proposal
row_in m s π n = record {
  prices = π;
  value = worth_of_demand m π -ℤ int_at s.earned (n - 1);
  supply = slice_index_or s.supply (n - 1) [];
  reserve = slice_index_or s.reserve (n - 1) [];
}

-- the rows of closed proposals, and the prices of all that are open
pub record Fronts : Type 0 where
  pub rows : List Proposal
  pub prices : List PriceLists

-- rows of closed proposals from 1 on, and the prices of all that are open where these are closed
pub record IsRound (b : Setup) (units : ℕ) (counts : List ℕ) (s : Sums) (f : Fronts) : Type 0 where
  pub within : length f.rows ≤ b.budget
  pub full : (k : ℕ) → k < length f.rows → is_full units counts (suc k) ≡ true
  pub rows_are : f.rows ≡ rows_by (rules_of b) (row_in b.market s) (length f.rows)
  pub prices_are : f.prices ≡ map (prices_by (rules_of b) (row_in b.market s))
      (range_with_len 1 (opened_in (rules_of b) f.rows))

-- one more row at the prices of its proposal
abbrev pub with_row : Market → Sums → Fronts → List Proposal
with_row m s f =
    f.rows ++ row_in m s (slice_index_or f.prices (length f.rows) no_prices) (suc (length f.rows))
    ∷ []

-- whether one more proposal opens: the last that is open is as far ahead as it may be, there may be
-- more, and the last row isn't settled
abbrev pub is_due : Setup → (closed opened : ℕ) → Bool
is_due b closed opened = (opened + 1 == closed + b.ahead) && nat_lt opened b.budget

abbrev pub opens : Setup → Fronts → Bool
opens b f =
    is_due b (length f.rows) (length f.prices) && not (is_last_settled b.market b.cost f.rows)

abbrev pub with_opened : Setup → Fronts → Fronts
with_opened b f =
    record f {
      prices = if opens b f then f.prices ++ next_prices b.market b.cost f.rows
          ∷ [] else f.prices;
    }

abbrev pub with_round : Setup → Sums → Fronts → Fronts
with_round b s f = with_opened b (record f { rows = with_row b.market s f })
