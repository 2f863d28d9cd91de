use Rattle.report_form.proofs.Common.{rules, w64, w128, to_z-of_z, weighed_text}
use Rattle.report_form.proofs.convex.write_convex_totals.Goals as goal

pub returns : goal.returns
unfolding weighed_text
returns g c = rw (
  to_z-of_z w128 c.args.surplus (search rules),
  to_z-of_z w128 c.args.payments (search rules),
  to_z-of_z w128 c.args.gap (search rules),
  to_z-of_z w64 c.args.weight (search rules),
  to_z-of_z w128 c.args.weight (search rules),
) at c.write_form_filled_with_parts.ensures
