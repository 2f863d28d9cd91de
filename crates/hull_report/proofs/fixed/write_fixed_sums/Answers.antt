use Rattle.hull_report.proofs.Common.{rules, w128, to_z-of_z, sums_text}
use Rattle.hull_report.proofs.fixed.write_fixed_sums.Goals as goal

pub returns : goal.returns
unfolding sums_text
returns g c = rw (
  to_z-of_z w128 c.args.hull.now.settlement.total (search rules),
  to_z-of_z w128 c.args.fixed.now.settlement.total (search rules),
  to_z-of_z w128 c.args.hull.now.settlement.surplus (search rules),
  to_z-of_z w128 c.args.fixed.now.settlement.surplus (search rules),
  to_z-of_z w128 c.args.cost (search rules),
) at c.write_form_filled_with_parts.ensures
