use Rattle.report_form.proofs.Common.{rules, w128, to_z-of_z, levels_text}
use Rattle.report_form.proofs.settlement.write_prices_and_totals.Goals as goal

pub returns : goal.returns
unfolding levels_text
returns g c = rw (
  ← c.as_slice-energy.ensures,
  ← c.as_slice-reserve.ensures,
  ← c.as_slice-supplied.ensures,
  ← c.as_slice-reserved.ensures,
) (rw (to_z-of_z w128 c.args.row.now.value (search rules)) at c.write_form_filled_with_parts.ensures)
