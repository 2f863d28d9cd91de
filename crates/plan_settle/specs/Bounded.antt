-- A run with the best bound round its chosen prices (this project's profile).
use Rattle.std.specs.Prelude.{◌≡◌, ℤ}
use Rattle.board_store.specs.Board.{Setup}
use Rattle.board_store.specs.Calls.{own_rows}
use Rattle.gap_proof.specs.Candidates.{IsFirstLeast}
use Rattle.right_report.specs.Told.{IsTold}
use Rattle.right_report.specs.RecordReport.{chosen_of}
use Rattle.plan_settle.specs.declared.bound.Bounded.{Bounded}
use Rattle.plan_settle.specs.Ended.{IsEnded}

-- it has ended, and the bound is the best one that its rows give round the chosen one
pub record IsBounded (b : Setup) (radius : ℤ) (r : Bounded) : Type 0 where
  pub ended : IsEnded b r.done
  pub radius_is : r.radius ≡ radius
  pub best : IsFirstLeast r.done.closed.setup.market (own_rows r.done.closed)
      (chosen_of r.done.closed) r.radius
      (record { first = r.certified.first; last = r.certified.last }) r.certified.bound
  pub told : IsTold r.certified.bound
