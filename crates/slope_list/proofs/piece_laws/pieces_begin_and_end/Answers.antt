use Rattle.slope_list.proofs.Lemmas.{pieces_begin, pieces_end}
use Rattle.slope_list.proofs.piece_laws.pieces_begin_and_end.Goals as goal

pub returns-clause-first : goal.returns-clause-first
returns-clause-first c = pieces_begin

pub returns-clause-last : goal.returns-clause-last
returns-clause-last c = pieces_end
