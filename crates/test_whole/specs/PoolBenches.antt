-- What a bench for shapes in a pool is made for (this project's profile).
use Rattle.std.specs.Prelude.{ℕ, ◌+◌, ◌*◌, ◌<◌, ◌≤◌, length}
use Rattle.test_units.specs.Entries.{cells_for}
use Rattle.test_whole.specs.declared.pool_bench.PoolBench.{PoolBench}

-- its parts suffice for the answers of a unit with so many cost points over so many periods
pub record IsPoolBenchFor (periods points : ℕ) (b : PoolBench) : Type 0 where
  pub cells : cells_for periods points ≤ b.pool.spare
  pub blocks : 2 * points ≤ length b.curve.blocks.items + b.curve.blocks.spare
  pub costs : periods ≤ length b.costs.items
  pub rows : periods < length b.table.items
