-- One run on one board: what it is for, and what it leaves (this project's profile).
use Rattle.std.specs.Prelude.{◌≡◌, length}
use Rattle.board_store.specs.Board.{Setup}
use Rattle.uc_model.specs.PlainUnits.{schedule_of}
use Rattle.uc_model.specs.PriceRule.{Proposal}
use Rattle.right_report.specs.RecordReport.{IsSettledRecord}
use Rattle.unit_program.specs.Tops.{IsBenchOver}
use Rattle.plan_settle.specs.declared.done.Done.{Done}

-- a run that has ended: its record is finished and settled at the chosen prices
pub record IsEnded (b : Setup) (d : Done) : Type 0 where
  pub setup : d.closed.setup ≡ b
  pub row : Proposal
  pub settled : IsSettledRecord d.closed d.settlement row
  pub buffer : length (schedule_of d.buffer.response).on ≡ b.market.periods
  pub bench : IsBenchOver b.market d.bench
