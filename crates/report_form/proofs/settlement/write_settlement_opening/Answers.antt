use Rattle.report_form.proofs.Common.{rules, w128, to_z-of_z, opening_text}
use Rattle.report_form.proofs.settlement.write_settlement_opening.Goals as goal

pub returns : goal.returns
unfolding opening_text
returns g c = rw (to_z-of_z w128 c.args.cost (search rules)) at c.write_form_filled_with_parts.ensures
