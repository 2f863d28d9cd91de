use Rattle.report_form.proofs.Common.{rules, w128, to_z-of_z, foot_text}
use Rattle.report_form.proofs.report.write_report_foot.Goals as goal

pub returns : goal.returns
unfolding foot_text
returns g c = rw (
  to_z-of_z w128 c.args.surplus (search rules),
  to_z-of_z w128 c.args.payments (search rules),
  to_z-of_z w128 c.args.gap (search rules),
) at c.write_form_filled_with_parts.ensures
