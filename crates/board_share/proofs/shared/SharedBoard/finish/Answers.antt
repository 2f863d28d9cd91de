use Rattle.board_share.proofs.Common.{rules, []}
use Rattle.board_share.proofs.Lemmas.{passes}
use Rattle.board_share.proofs.shared.SharedBoard.finish.Goals as goal

pub fetch_add-requires : goal.fetch_add-requires
fetch_add-requires c = (
  search rules,
  search rules,
  passes _ _ _ _ c.requires.turn.0 c.requires.hand.0 [] (search rules) (search rules) (search rules) (search rules),
)
