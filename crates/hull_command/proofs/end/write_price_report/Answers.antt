use Rattle.hull_command.proofs.Lemmas.{ended_lengths}
use Rattle.hull_command.proofs.end.write_price_report.Goals as goal

pub write_report-requires-clause-scheduled : goal.write_report-requires-clause-scheduled
write_report-requires-clause-scheduled g c =
    (ended_lengths c.settlement_has_entry_for_each_unit.ensures c.args.done.now c.requires).0

pub write_report-requires-clause-payments : goal.write_report-requires-clause-payments
write_report-requires-clause-payments g c =
    (ended_lengths c.settlement_has_entry_for_each_unit.ensures c.args.done.now c.requires).1
