use Rattle.report_form.proofs.Common.{rules, w64, w128, to_z-of_z, share_text}
use Rattle.report_form.proofs.convex.write_mixture_entry.Goals as goal

pub returns : goal.returns
unfolding share_text
returns g c =
    rw (
      ← c.as_slice-on.ensures,
      ← c.as_slice-power.ensures,
      ← c.as_slice-reserve.ensures,
    )
    (rw (
      to_z-of_z w64 c.args.weight (search rules),
      to_z-of_z w128 c.args.weight (search rules),
    ) at c.write_form_filled_with_parts.ensures)
