-- What is seen of a pool and of a shape in it.
use Rattle.std.specs.Prelude.{◌≡◌, ℕ, List, map}
use Rattle.test_shapes.specs.Cell.{Cell, AreSameAt}
use Rattle.slope_list.specs.Table.{Table}
use Rattle.ramp_step.specs.declared.breakpoint.Knot.{Knot}
use Rattle.point_pool.specs.declared.pool.Pool.{Pool}
use Rattle.point_pool.specs.declared.pooled.Pooled.{Pooled}
use Rattle.point_pool.specs.Walk.{walk, knots_at, cell_of, AreUsed}
use Rattle.ramp_step.specs.Tables.{function_of, IsBreakList}
use Rattle.point_pool.specs.CellLaws.{same_by_contents}
use Rattle.std.proofs.Common.{ap}

-- the cells of a pool
abbrev pub cells_of : Pool → List Cell
cells_of p = map cell_of p.slots.items

-- the numbers of a shape's cells
abbrev pub numbers_of : Pool → Pooled → List ℕ
numbers_of p s = walk p.slots.items s.head s.count

-- its breakpoints
abbrev pub knots_of : Pool → Pooled → List Knot
knots_of p s = knots_at p.slots.items (numbers_of p s)

-- its function
abbrev pub shown : Pool → Pooled → Table
shown p s = function_of (knots_of p s)

-- the shape is in the pool: its cells differ and are in use, and hold breakpoints of a convex
-- function within the limits
pub record IsIn (p : Pool) (s : Pooled) : Type 0 where
  pub used : AreUsed p.slots.items (numbers_of p s)
  pub breaks : IsBreakList (knots_of p s)

-- where the contents of its cells are equal in two states, its numbers and its function are
pub seen_by_contents : (p p' : Pool) (s : Pooled) → IsIn p s →
    AreSameAt (numbers_of p s) (cells_of p) (cells_of p') → (numbers_of p' s ≡ numbers_of p s)
    × (shown p' s ≡ shown p s)
seen_by_contents p p' s here same =
    let r = same_by_contents p.slots.items p'.slots.items s.head s.count here.used same in
    (r.numbers, ap function_of r.knots)
