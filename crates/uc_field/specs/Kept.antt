-- What the lists of a case file keep while they are read: limits and orders.
use Rattle.std.specs.Prelude.{ℕ, ◌<◌, ◌≤◌, suc, ◌≤ℤ◌, ℤ, List, length, slice_index_or}
use Rattle.std.specs.List.{All}
use Rattle.uc_model.specs.declared.units.Lag.{Lag}
use Rattle.uc_model.specs.declared.units.Point.{Point}
use Rattle.uc_model.specs.declared.units.Block.{Block}
use Rattle.uc_model.specs.declared.limits.TheConstants.{MOST_POINTS}
use Rattle.uc_model.specs.Limits.{IsLag, AreLagsOrdered, IsPoint, ArePointsOrdered, IsBlock, Spans}

pub record AreLags (ls : List Lag) : Type 0 where
  pub lags : All IsLag ls
  pub ordered : AreLagsOrdered ls

pub record ArePoints (ps : List Point) : Type 0 where
  pub points : All IsPoint ps
  pub ordered : ArePointsOrdered ps

-- the points of a cost from a least to a greatest power
pub record IsPointList (ps : List Point) (low high : ℤ) : Type 0 where
  pub count : length ps ≤ MOST_POINTS
  pub some : 1 ≤ length ps
  pub points : ArePoints ps
  pub span : Spans ps low high

-- no price is above the one before it
pub record AreBlocks (bs : List Block) : Type 0 where
  pub blocks : All IsBlock bs
  pub falling : (k : ℕ) (d : Block) → suc k < length bs
      → (slice_index_or bs (suc k) d).price ≤ℤ (slice_index_or bs k d).price
