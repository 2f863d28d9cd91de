use Rattle.uc_text.proofs.Lemmas.{one_value}
use Rattle.uc_text.proofs.laws.json_text_has_one_value.Goals as goal

pub returns : goal.returns
returns c = λ limit bytes v w h k. one_value limit bytes v w h k
