use Rattle.hull_input.proofs.Lemmas.{text_read}
use Rattle.hull_input.proofs.laws.report_bytes_are_its_text.Goals as goal

pub returns : goal.returns
returns c = text_read
