use Rattle.report_compare.proofs.Common.{ap, ◌∙◌, length, arith}
use Rattle.std.proofs.lemmas.List.{length-replicate}
use Rattle.report_compare.proofs.compare_room.CompareRoom.make.Goals as goal

pub returns : goal.returns
returns c =
    let units = c.unit_count-units.ensures.value in
    let empty = ap length c.in_ok-earned.ensures.empty in
    let room = c.in_ok-earned.ensures.room in
    record {
      bench = c.requires;
      answer = ap length c.in_ok-answer.ensures.on ∙ length-replicate _ _;
      earned = omega (arith, units, empty, room);
      scheduled = ap length c.in_ok-settlement.ensures.scheduled ∙ length-replicate _ _ ∙ units;
      payments = ap length c.in_ok-settlement.ensures.payments ∙ length-replicate _ _ ∙ units;
    }
