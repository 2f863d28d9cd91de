use Rattle.plan_settle.proofs.Common.{ap, ◌∙◌, length, arith, length-replicate}
use Rattle.plan_settle.proofs.chosen.make_settlement_buffers_of_run.Goals as goal

pub returns : goal.returns
returns c =
    let units = c.unit_count-units.ensures.value in
    let empty = ap length c.in_ok-earned.ensures.empty in
    let room = c.in_ok-earned.ensures.room in
    record {
      horizon = ap length c.in_ok-buffer.ensures.on ∙ length-replicate _ _;
      scheduled = ap length c.in_ok-settlement.ensures.scheduled ∙ length-replicate _ _ ∙ units;
      payments = ap length c.in_ok-settlement.ensures.payments ∙ length-replicate _ _ ∙ units;
      numbers = omega (arith, units, empty, room);
    }
