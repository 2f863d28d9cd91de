use Rattle.board_store.proofs.Lemmas.{difference_at, difference_none}
use Rattle.board_store.proofs.laws.lists_differ_at_first_unequal_number.Goals as goal

pub returns : goal.returns
returns c = λ own given. record { at = difference_at own given; none = difference_none own given }
