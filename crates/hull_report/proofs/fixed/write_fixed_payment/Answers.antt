use Rattle.hull_report.proofs.Common.{rules, w64, w128, to_z-of_z, paid_text}
use Rattle.hull_report.proofs.fixed.write_fixed_payment.Goals as goal

pub returns : goal.returns
unfolding paid_text
returns g c =
    rw (← c.as_bytes-bytes.ensures.value)
    (rw (
      to_z-of_z w64 c.args.paid.hull (search rules),
      to_z-of_z w64 c.args.paid.fixed (search rules),
      to_z-of_z w128 c.args.paid.hull (search rules),
      to_z-of_z w128 c.args.paid.fixed (search rules),
    ) at c.write_form_filled_with_parts.ensures)
