use Rattle.report_form.proofs.Common.{rules, w128, to_z-of_z, chosen_text}
use Rattle.report_form.proofs.report.write_chosen.Goals as goal

pub returns : goal.returns
unfolding chosen_text
returns g c = rw (to_z-of_z w128 c.args.value (search rules)) at c.write_form_filled_with_parts.ensures
