use Rattle.unit_table.proofs.Common.{thermal_of, cost_at, inr, arith, ap, ◌∙◌, length}
use Rattle.unit_table.proofs.Lemmas.{kept_room, kept_roomy, kept_trails, none_trails, off_roomy}
use Rattle.unit_table.proofs.RowByRowLaws.{table_begun}
use Rattle.unit_table.proofs.periods.reset_table_and_running_spells.Goals as goal

pub returns-clause-filled : goal.returns-clause-filled
returns-clause-filled c = λ π limits some.
    let begun = c.reset_table_to_row_before_horizon.ensures in
    record {
      table = table_begun (thermal_of c.args.unit.now) π some c.reset_table_to_row_before_horizon.new.table.items
          begun.first begun.rest
          limits;
      spells = c.continue_initial_spell.ensures.stands π limits
          (cost_at c.reset_table_to_row_before_horizon.new.table.items);
      within = begun.within;
    }

pub returns-clause-room : goal.returns-clause-room
returns-clause-room c = λ room periods charge fits have.
    kept_roomy _ _ c.continue_initial_spell.ensures.kept periods 0 charge (λ f. inr (omega arith))
    (off_roomy room periods 0 charge c.stop_all_spells_and_forget_their_log.new.spells
    c.stop_all_spells_and_forget_their_log.ensures.off
    c.stop_all_spells_and_forget_their_log.ensures.none fits
    (c.stop_all_spells_and_forget_their_log.ensures.rooms.keeps room have))

pub returns-clause-traces : goal.returns-clause-traces
returns-clause-traces c =
    kept_trails _ _ c.continue_initial_spell.ensures.kept _
    (none_trails _ c.stop_all_spells_and_forget_their_log.new.spells
    c.stop_all_spells_and_forget_their_log.ensures.none)

pub returns-clause-same : goal.returns-clause-same
returns-clause-same c =
    let kept = c.continue_initial_spell.ensures.kept in
    let rooms = c.stop_all_spells_and_forget_their_log.ensures.rooms in
    let none = ap length c.clear.ensures.items in
    let spare = c.clear.ensures.spare in
    record {
      rows_length = c.reset_table_to_row_before_horizon.ensures.length;
      count_same = kept.count_same ∙ rooms.count_same;
      firsts_same = cc;
      log_same = omega arith;
      keeps = λ room have. kept_room _ _ kept room (rooms.keeps room have);
    }

pub returns-clause-log : goal.returns-clause-log
returns-clause-log c = c.clear.ensures.items
