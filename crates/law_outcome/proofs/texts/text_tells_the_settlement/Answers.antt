use Rattle.law_outcome.proofs.SettledTexts.{text_tells_the_settlement}
use Rattle.law_outcome.proofs.texts.text_tells_the_settlement.Goals as goal

pub returns : goal.returns
returns c = text_tells_the_settlement c.settlements_have_form.ensures c.text_determines_the_settlement.ensures
    c.plan_has_at_most_one_settlement.ensures
