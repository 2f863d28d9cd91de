use Rattle.report_form.proofs.Common.{rules, w128, to_z-of_z, bounded_text}
use Rattle.report_form.proofs.convex.write_convex_bound.Goals as goal

pub returns : goal.returns
unfolding bounded_text
returns g c = rw (
  to_z-of_z w128 c.args.bound (search rules),
  to_z-of_z w128 c.args.distance (search rules),
  to_z-of_z w128 c.args.least (search rules),
) at c.write_form_filled_with_parts.ensures
