use Rattle.uc_text.proofs.Lemmas.{one_fault}
use Rattle.uc_text.proofs.laws.bad_json_text_has_one_first_fault.Goals as goal

pub returns : goal.returns
returns c = λ limit bytes f g h k. one_fault limit bytes f g h k
