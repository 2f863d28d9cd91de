use Rattle.hull_report.proofs.Common.{refl, ap, ◌∙◌, rules, w128, to_z-of_z, Market, unit_count}
use Rattle.hull_report.proofs.record.report_head_of.Goals as goal

pub returns : goal.returns
returns c = record {
  periods = ap (λ (m : Market). m.periods) c.case-case.ensures;
  units = c.unit_count.ensures.value ∙ ap unit_count c.case-case.ensures;
  budget = c.budget.ensures;
  ahead = c.ahead.ensures;
  cost = to_z-of_z w128 c.cost.result (search rules) ∙ c.cost.ensures.cost;
  proposals = refl;
}
