use Rattle.hull_fault.proofs.Common.{text_told}
use Rattle.hull_fault.proofs.line.write_json_text_fault.Goals as goal

pub returns : goal.returns
unfolding text_told
returns g c = rw (← c.file_kind_text-word.ensures, ← c.number-code.ensures) c.write_form_filled_with_parts.ensures
