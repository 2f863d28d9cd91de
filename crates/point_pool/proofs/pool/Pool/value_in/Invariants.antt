use Rattle.point_pool.proofs.Common.{◌-◌, ◌<◌, ◌<ℤ◌, power, walk, knots_at}
use Rattle.point_pool.proofs.Lemmas.{IsCellAt}
use Rattle.point_pool.proofs.pool.Pool.value_in.Given as goal

abbrev pub invariant-loop-done : goal.invariant-loop-done
invariant-loop-done l = record {
  here : IsCellAt l.self.slots.items l.head l.count (l.done - 1) l.at;
  passed : 1 < l.done → power (knots_at l.self.slots.items (walk l.self.slots.items l.head l.count))
      (l.done - 1) <ℤ l.x;
}
