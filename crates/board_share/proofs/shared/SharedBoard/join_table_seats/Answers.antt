use Rattle.board_share.proofs.Common.{rules, ap}
use Rattle.board_share.proofs.Lemmas.{joins, tells}
use Rattle.board_share.proofs.shared.SharedBoard.join_table_seats.Goals as goal

pub join_seat-requires : goal.join_seat-requires
join_seat-requires c = (
  search rules,
  search rules,
  search rules,
  search rules,
  joins _ _ _ c.args.seat.now.me.0 c.args.other.me.0 c.requires.own.2 c.requires.ready.0 c.requires.ready.1,
)

pub load-requires : goal.load-requires
load-requires c = let v = c.args.seat.now.me.0 in let w = c.args.other.me.0 in (
  search rules,
  search rules,
  tells _ _ _ c.join_seat.new.seat.me v.seen w.seen v.out w.caller
      (ap (λ m. m.0.stage) c.join_seat.ensures.2),
)
