use Rattle.test_units.proofs.Common.{◌≡◌, ℕ, suc, ◌+◌, ◌*◌, ◌<◌, ◌≤◌, ◌⊎◌, length, get_or, None, true, Frame}
use Rattle.test_units.proofs.Common.{thermal_of, prices_of, IsFrontier, spell_first, IsSpellCost}
use Rattle.test_units.proofs.costs.fill.Given as goal

abbrev pub invariant-loop-index : goal.invariant-loop-index
invariant-loop-index g l = record {
  here : g.S.Shape.is_in l.home l.running;
  frontier : IsFrontier (thermal_of l.unit) (prices_of l.prices) (spell_first l.started l.first) l.index
      (g.S.Shape.function l.home l.running);
  answers : (k : ℕ) → l.first ≤ suc k → k < l.index →
      IsSpellCost (thermal_of l.unit) (prices_of l.prices) (spell_first l.started l.first) (suc k)
      (get_or l.into.items k None);
  others : (k : ℕ) → (suc k < l.first) ⊎ (length l.prices.energy.items ≤ k) →
      get_or l.into.items k None ≡ get_or l.fn.into.items k None;
  same_length : length l.into.items ≡ length l.fn.into.items;
  frame : Frame g.S.Home.Cells.cell_list g.S.Shape.is_in g.S.Shape.numbers (g.S.Shape.numbers l.fn.home l.fn.running)
      (g.S.Shape.numbers l.home l.running) l.fn.home l.home;
  balance : g.S.Home.Cells.counts ≡ true → g.S.Home.Cells.sure l.home + g.S.Shape.cells l.running ≡ g.S.Home.Cells.sure
      l.fn.home + g.S.Shape.cells l.fn.running;
  most : g.S.Home.Cells.counts ≡ true →
      g.S.Shape.cells l.running ≤ g.S.Shape.cells l.fn.running + l.index * (length l.curve.blocks.items + 5);
}
