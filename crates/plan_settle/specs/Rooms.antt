-- The memory of a settlement.
use Rattle.std.specs.Prelude.{◌≡◌, ℕ, ◌≤◌, List, [], length}
use Rattle.std.specs.List.{All}
use Rattle.uc_model.specs.Data.{Market, unit_count}
use Rattle.uc_model.specs.PlainUnits.{schedule_of}
use Rattle.uc_model.specs.declared.units.Answered.{Answered}
use Rattle.plan_settle.specs.declared.room.Room.{Room}

-- so many answers over so many periods, whatever they say
pub record AreOver (periods count : ℕ) (answers : List Answered) : Type 0 where
  pub as_many : length answers ≡ count
  pub over : All (λ (a : Answered). length (schedule_of a.response).on ≡ periods) answers

-- room for each unit of a case, with nothing in it yet
pub record HasRoom (m : Market) (r : Room) : Type 0 where
  pub spare : AreOver m.periods (unit_count m) r.spare.answers.items
  pub no_response : r.responses.items ≡ []
  pub responses : unit_count m ≤ r.responses.spare
  pub nothing_earned : r.earned.items ≡ []
  pub earned : unit_count m ≤ r.earned.spare
  pub no_supply : r.supply.items ≡ []
  pub supply : m.periods ≤ r.supply.spare
  pub no_reserve : r.reserve.items ≡ []
  pub reserve : m.periods ≤ r.reserve.spare
  pub scheduled : length r.settlement.scheduled.items ≡ unit_count m
  pub payments : length r.settlement.payments.items ≡ unit_count m
