use Rattle.point_pool.proofs.Common.{◌≡◌, ◌-◌, ◌++◌, take, walk, knots_at, AreUsed}
use Rattle.point_pool.proofs.pool.Pool.load.Given as goal

abbrev pub invariant-loop-k : goal.invariant-loop-k
invariant-loop-k l = record {
  rest : AreUsed l.fn.self.slots.items (walk l.fn.self.slots.items l.at (l.count - l.k));
  knots : take l.k l.self.work.items ++ knots_at l.fn.self.slots.items
      (walk l.fn.self.slots.items l.at (l.count - l.k)) ≡ knots_at l.fn.self.slots.items
      (walk l.fn.self.slots.items l.head l.count);
  slots : l.self.slots.items ≡ l.fn.self.slots.items;
  spare : l.self.spare ≡ l.fn.self.spare;
}
