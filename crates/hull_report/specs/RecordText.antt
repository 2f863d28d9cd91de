-- What the text of a record's report is written from (this project's profile).
use Rattle.std.specs.Prelude.{◌≡◌, ℕ, ◌≤◌, length}
use Rattle.board_store.specs.Board.{Content}
use Rattle.board_store.specs.Calls.{own_rows}
use Rattle.uc_model.specs.Data.{unit_count}
use Rattle.price_settle.specs.declared.settlement.Settlement.{Settlement}

-- there is a row of that number, and the settlement has its numbers for each unit
pub record HasNumbers (c : Content) (s : Settlement) (proposal : ℕ) : Type 0 where
  pub first : 1 ≤ proposal
  pub last : proposal ≤ length (own_rows c)
  pub scheduled : length s.scheduled.items ≡ unit_count c.setup.market
  pub payments : length s.payments.items ≡ unit_count c.setup.market
