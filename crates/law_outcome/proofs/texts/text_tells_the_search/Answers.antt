use Rattle.law_outcome.proofs.SearchTexts.{text_tells_the_search}
use Rattle.law_outcome.proofs.texts.text_tells_the_search.Goals as goal

pub returns : goal.returns
returns c = text_tells_the_search c.settlements_have_form.ensures c.text_determines_the_convex_report.ensures
    c.plan_has_at_most_one_settlement.ensures
