use Rattle.unit_program.proofs.Common.{length, ap, arith, length-append}
use Rattle.unit_program.proofs.Lemmas.{room_more}
use Rattle.unit_program.proofs.bench.make_running_spells.Goals as goal

pub loop-preserved : goal.loop-preserved
loop-preserved c =
    let items = c.push_reserved.ensures.items in
    record {
      count = omega (arith, simp length-append at (ap length items));
      capacity = omega (arith, c.push_reserved.ensures.capacity);
      room = room_more c.args.pieces c.loop.spells.items c.push_reserved.new.self.items _ items
          (omega (arith, c.in_ok-running.ensures.room)) c.loop.invariant.room;
    }
