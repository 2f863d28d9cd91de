use Rattle.report_form.proofs.Common.{rules, w64, w128, to_z-of_z, search_text}
use Rattle.report_form.proofs.convex.write_convex_opening.Goals as goal

pub returns : goal.returns
unfolding search_text
returns g c = rw (
  to_z-of_z w128 c.args.lines.now.cost (search rules),
  to_z-of_z w64 c.args.lines.now.within (search rules),
  to_z-of_z w128 c.args.lines.now.within (search rules),
) at c.write_form_filled_with_parts.ensures
