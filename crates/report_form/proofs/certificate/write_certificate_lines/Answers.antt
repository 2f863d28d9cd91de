use Rattle.report_form.proofs.Common.{rules, w128, to_z-of_z, certificate_text}
use Rattle.report_form.proofs.certificate.write_certificate_lines.Goals as goal

pub returns : goal.returns
unfolding certificate_text
returns g c = rw (
  to_z-of_z w128 c.args.lines.now.cost (search rules),
  to_z-of_z w128 c.args.lines.now.value (search rules),
  to_z-of_z w128 c.args.lines.now.surplus (search rules),
  to_z-of_z w128 c.args.lines.now.payments (search rules),
  to_z-of_z w128 c.args.lines.now.gap (search rules),
  to_z-of_z w128 c.args.lines.now.bound (search rules),
  to_z-of_z w128 c.args.lines.now.distance (search rules),
  to_z-of_z w128 c.args.lines.now.least (search rules),
) at c.write_form_filled_with_parts.ensures
