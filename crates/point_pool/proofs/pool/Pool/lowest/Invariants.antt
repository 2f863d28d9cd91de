use Rattle.point_pool.proofs.Common.{◌-◌, ◌<◌, ◌<ℤ◌, height, walk, knots_at}
use Rattle.point_pool.proofs.Lemmas.{IsCellAt}
use Rattle.point_pool.proofs.pool.Pool.lowest.Given as goal

abbrev pub invariant-loop-done : goal.invariant-loop-done
invariant-loop-done l = record {
  here : IsCellAt l.self.slots.items l.head l.count (l.done - 1) l.at;
  falls : 1 < l.done → height (knots_at l.self.slots.items (walk l.self.slots.items l.head l.count))
      (l.done - 1) <ℤ height (knots_at l.self.slots.items (walk l.self.slots.items l.head l.count)) ((l.done - 1) - 1);
}
