-- The memory of a comparison.
use Rattle.std.specs.Prelude.{◌≡◌, ◌+◌, ◌≤◌, length}
use Rattle.uc_model.specs.Data.{Market, unit_count}
use Rattle.uc_model.specs.PlainUnits.{schedule_of}
use Rattle.unit_program.specs.Tops.{IsBenchOver}
use Rattle.report_compare.specs.declared.compare_room.CompareRoom.{CompareRoom}

-- it suffices for the case
pub record IsDeskFor (m : Market) (d : CompareRoom) : Type 0 where
  pub bench : IsBenchOver m d.bench
  pub answer : length (schedule_of d.answer.response).on ≡ m.periods
  pub earned : unit_count m ≤ length d.earned.items + d.earned.spare
  pub scheduled : length d.settlement.scheduled.items ≡ unit_count m
  pub payments : length d.settlement.payments.items ≡ unit_count m
