use Rattle.case_make.proofs.Common.{arith, power_at}
use Rattle.case_make.proofs.Lemmas.{pushed}
use Rattle.case_make.proofs.schedules.powers_with_peak_hours.Goals as goal

pub loop-index-preserved : goal.loop-index-preserved
loop-index-preserved c = record {
  so_far = pushed (power_at c.args.level c.args.high) c.loop-index.index _ _ _ c.push.ensures.items
      c.loop-index.invariant.so_far c.power_of_hour.ensures;
  room = omega (arith, c.push.ensures.spare, c.loop-index.invariant.room);
}
