use Rattle.point_pool.proofs.Lemmas.{replaced_by}
use Rattle.point_pool.proofs.pool.Pool.replace.Goals as goal

pub returns-clause-replaced : goal.returns-clause-replaced
returns-clause-replaced c =
    replaced_by c.args.self.now.slots.items c.release.new.self.slots.items c.store.new.self.slots.items _ _ _
    c.release.ensures.released (rw c.release.ensures.work at c.store.ensures.stored)
