use Rattle.report_form.proofs.Common.{rules, w64, w128, to_z-of_z, flat_text}
use Rattle.report_form.proofs.report.write_always_on_unit_lines.Goals as goal

pub returns : goal.returns
unfolding flat_text
returns g c =
    rw (
      ← c.as_bytes-bytes.ensures.value,
      ← c.as_slice-power.ensures,
    )
    (rw (
      to_z-of_z w64 c.args.owed.now.earned (search rules),
      to_z-of_z w64 c.args.owed.now.scheduled (search rules),
      to_z-of_z w64 c.args.owed.now.payment (search rules),
      to_z-of_z w128 c.args.owed.now.earned (search rules),
      to_z-of_z w128 c.args.owed.now.scheduled (search rules),
      to_z-of_z w128 c.args.owed.now.payment (search rules),
    ) at c.write_form_filled_with_parts.ensures)
