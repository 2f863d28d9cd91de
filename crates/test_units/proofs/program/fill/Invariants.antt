use Rattle.test_units.proofs.Common.{◌≡◌, [], length, true, thermal_of, prices_of, IsFilled}
use Rattle.test_shapes.specs.Cell.{Frame}
use Rattle.test_units.proofs.program.fill.Given as goal

abbrev pub invariant-loop-first : goal.invariant-loop-first
invariant-loop-first g l = record {
  filled : IsFilled (thermal_of l.unit) (prices_of l.prices) l.first l.table.items;
  costs_length : length l.costs.items ≡ length l.fn.costs.items;
  table_length : length l.table.items ≡ length l.fn.table.items;
  frame : Frame g.S.Home.Cells.cell_list g.S.Shape.is_in g.S.Shape.numbers [] [] l.fn.home l.home;
  sure : g.S.Home.Cells.counts ≡ true → g.S.Home.Cells.sure l.home ≡ g.S.Home.Cells.sure l.fn.home;
}
