use Rattle.board_share.proofs.Common.{rules}
use Rattle.board_share.proofs.Lemmas.{draws}
use Rattle.board_share.proofs.shared.SharedBoard.draw_turn_ticket.Goals as goal

pub fetch_add-requires : goal.fetch_add-requires
fetch_add-requires c = (search rules, search rules, draws _ _ _ _ (search rules))
