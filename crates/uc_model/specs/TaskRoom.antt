-- The room of a task: that of any unit of a case with so many periods (this project's profile).
use Rattle.std.specs.Prelude.{◌≡◌, ℕ, ◌≤◌, length}
use Rattle.std.specs.List.{All}
use Rattle.uc_model.specs.declared.limits.TheConstants.{MOST_LAGS, MOST_POINTS, MOST_BLOCKS}
use Rattle.uc_model.specs.declared.units.Block.{Block}
use Rattle.uc_model.specs.declared.cases.Task.{Task}
use Rattle.plain_lists.specs.Reserved.{Reserved, room_of}

-- its period lists have that length, and its other lists room for as many items as a unit may have
pub record IsTaskFor (periods : ℕ) (t : Task) : Type 0 where
  pub horizon : length t.prices.energy.items ≡ periods
  pub lags : MOST_LAGS ≤ room_of t.thermal.lags
  pub points : MOST_POINTS ≤ room_of t.thermal.points
  pub blocks : All (λ (bs : Reserved Block). MOST_BLOCKS ≤ room_of bs) t.bid.blocks.items
