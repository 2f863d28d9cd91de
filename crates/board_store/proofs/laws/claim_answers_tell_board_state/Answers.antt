use Rattle.board_store.proofs.Common.{rules_of}
use Rattle.board_store.proofs.ClaimWords.{claim_says}
use Rattle.board_store.proofs.laws.claim_answers_tell_board_state.Goals as goal

pub returns : goal.returns
returns c = λ b h. claim_says (rules_of b) h
