use Rattle.hull_command.proofs.Lemmas.{sizes}
use Rattle.hull_command.proofs.laws.words_have_numbers_in_range.Goals as goal

pub returns : goal.returns
returns c = sizes
