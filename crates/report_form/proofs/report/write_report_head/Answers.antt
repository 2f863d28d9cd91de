use Rattle.report_form.proofs.Common.{rules, w128, to_z-of_z, head_text}
use Rattle.report_form.proofs.report.write_report_head.Goals as goal

pub returns : goal.returns
unfolding head_text
returns g c = rw (to_z-of_z w128 c.args.head.now.cost (search rules)) at c.write_form_filled_with_parts.ensures
