use Rattle.bundle_columns.proofs.Common.{refl, arith, schedule_of}
use Rattle.bundle_columns.proofs.Keeping.{entries_pushed}
use Rattle.bundle_columns.proofs.plans.entries_of_one_response.Goals as goal

pub loop-preserved : goal.loop-preserved
loop-preserved c =
    let room = c.loop.invariant.room in
    let spare = c.push-in-loop.ensures.spare in
    record {
      made = entries_pushed c.loop.counter (schedule_of c.args.from.now) c.loop.entries.items
          c.push-in-loop.new.self.items _ c.loop.invariant.made c.push-in-loop.ensures.items
          c.in_ok-response-2.ensures refl;
      room = omega (arith, room, spare);
    }
