use Rattle.point_pool.proofs.Common.{arith, slot_if_used, differ, inside_if_used}
use Rattle.point_pool.proofs.pool.Pool.make.Goals as goal

pub returns-clause-free : goal.returns-clause-free
returns-clause-free c = λ n u.
    let slots = c.loop-number.pool.slots.items in
    let used = slot_if_used slots n u in
    let inside = inside_if_used slots n used in
    differ used (c.loop-number.invariant.free n (omega (arith, inside, c.loop-number.invariant.long)))
