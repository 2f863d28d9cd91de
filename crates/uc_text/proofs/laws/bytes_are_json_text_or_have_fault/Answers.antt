use Rattle.uc_text.proofs.Decided.{text_or_first_fault}
use Rattle.uc_text.proofs.laws.bytes_are_json_text_or_have_fault.Goals as goal

pub returns : goal.returns
returns c = λ limit bytes. text_or_first_fault limit bytes
