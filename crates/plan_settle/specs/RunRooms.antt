-- What a run has room for beside its workers (this project's profile).
use Rattle.std.specs.Prelude.{◌≡◌, ℕ, ◌≤◌, length}
use Rattle.board_store.specs.Board.{Setup}
use Rattle.uc_model.specs.Data.{unit_count}
use Rattle.uc_model.specs.PlainUnits.{schedule_of}
use Rattle.uc_model.specs.declared.units.Answered.{Answered}
use Rattle.price_settle.specs.declared.settlement.Settlement.{Settlement}

-- an answer over the horizon, the settlement, and so many of the numbers that units earn
pub record HasRunRoom (b : Setup) (buffer : Answered) (settlement : Settlement) (earned : ℕ) : Type
    0 where
  pub horizon : length (schedule_of buffer.response).on ≡ b.market.periods
  pub scheduled : length settlement.scheduled.items ≡ unit_count b.market
  pub payments : length settlement.payments.items ≡ unit_count b.market
  pub numbers : unit_count b.market ≤ earned
