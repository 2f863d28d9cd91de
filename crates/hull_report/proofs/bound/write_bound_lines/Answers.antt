use Rattle.hull_report.proofs.Common.{rules, w128, to_z-of_z, bound_text}
use Rattle.hull_report.proofs.bound.write_bound_lines.Goals as goal

pub returns : goal.returns
unfolding bound_text
returns g c =
    rw (← c.distance_from_value_to_bound-distance.ensures) (rw (
      to_z-of_z w128 c.args.lines.now.value (search rules),
      to_z-of_z w128 c.args.lines.now.bound (search rules),
      to_z-of_z w128 c.distance_from_value_to_bound-distance.result (search rules),
    ) at c.write_form_filled_with_parts.ensures)
