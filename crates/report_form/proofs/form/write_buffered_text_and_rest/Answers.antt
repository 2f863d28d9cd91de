use Rattle.report_form.proofs.GrownLemmas.{writes_exit}
use Rattle.report_form.proofs.FormLemmas.{writes_waiting}
use Rattle.report_form.proofs.form.write_buffered_text_and_rest.Goals as goal

pub returns-in_err-add_bytes : goal.returns-in_err-add_bytes
returns-in_err-add_bytes g c = writes_exit _ _ c.from_residual.ensures.0 c.in_err-add_bytes.ensures.err

pub returns : goal.returns
returns g c = writes_waiting _ _ _ (rw c.as_slice.ensures.value at c.write_whole.ensures) c.in_ok-add_bytes.ensures.ok
