use Rattle.hull_report.proofs.Common.{rules, w128, to_z-of_z, sides_text}
use Rattle.hull_report.proofs.fixed.write_fixed_prices_of_both_runs.Goals as goal

pub returns : goal.returns
unfolding sides_text
returns g c =
    rw (
      ← c.as_slice-hull_energy.ensures,
      ← c.as_slice-hull_reserve.ensures,
      ← c.as_slice-fixed_energy.ensures,
      ← c.as_slice-fixed_reserve.ensures,
    )
    (rw (
      to_z-of_z w128 c.args.hull.now.value (search rules),
      to_z-of_z w128 c.args.fixed.now.value (search rules),
    ) at c.write_form_filled_with_parts.ensures)
