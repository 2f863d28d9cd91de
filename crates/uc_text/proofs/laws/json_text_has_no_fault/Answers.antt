use Rattle.uc_text.proofs.Lemmas.{text_or_fault}
use Rattle.uc_text.proofs.laws.json_text_has_no_fault.Goals as goal

pub returns : goal.returns
returns c = λ limit bytes v f h k. text_or_fault limit bytes v f h k
