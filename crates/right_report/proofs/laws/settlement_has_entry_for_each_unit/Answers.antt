use Rattle.right_report.proofs.Lemmas.{settled_lengths}
use Rattle.right_report.proofs.laws.settlement_has_entry_for_each_unit.Goals as goal

pub returns : goal.returns
returns c = settled_lengths
