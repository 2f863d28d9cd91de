use Rattle.point_pool.proofs.Common.{◌≡◌, ◌+◌, ◌-◌, walk}
use Rattle.point_pool.proofs.Lemmas.{Releasing}
use Rattle.point_pool.proofs.pool.Pool.release.Given as goal

abbrev pub invariant-loop-done : goal.invariant-loop-done
invariant-loop-done l = record {
  releasing : Releasing l.fn.self.slots.items l.self.slots.items (walk l.fn.self.slots.items l.head l.count)
      (walk l.self.slots.items l.at (l.count - l.done));
  spare : l.self.spare ≡ l.fn.self.spare + l.done;
  work : l.self.work.items ≡ l.fn.self.work.items;
}
