use Rattle.law_outcome.proofs.SettledTexts.{settlements_have_form}
use Rattle.law_outcome.proofs.texts.settlements_have_form.Goals as goal

pub returns : goal.returns
returns c = settlements_have_form c.unit_numbers_go_by_kind.ensures
