use Rattle.report_form.proofs.Common.{mixed_text}
use Rattle.report_form.proofs.convex.write_mixture_unit.Goals as goal

pub returns : goal.returns
unfolding mixed_text
returns g c = rw (← c.as_bytes-bytes.ensures.value) c.write_form_filled_with_parts.ensures
