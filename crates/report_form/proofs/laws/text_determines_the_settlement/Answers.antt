use Rattle.report_form.proofs.ReadSettlement.{settlement_determined}
use Rattle.report_form.proofs.laws.text_determines_the_settlement.Goals as goal

pub returns : goal.returns
returns c = settlement_determined
