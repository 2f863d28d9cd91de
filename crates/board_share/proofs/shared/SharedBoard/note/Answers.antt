use Rattle.board_share.proofs.Common.{rules, []}
use Rattle.board_share.proofs.Lemmas.{grows, grown_by}
use Rattle.board_share.proofs.shared.SharedBoard.note.Goals as goal

pub store-requires : goal.store-requires
store-requires c = let h = c.requires.hand in
    let e = grown_by c.args.seat.now.me.0.caller c.args.seat.now.me.0.seen h.0.events c.args.before c.args.after h.2 h.3
    c.requires.before c.if-after-before.true in (
      search rules,
      search rules,
      grows _ _ _ c.args.seat.now.me c.requires.turn.0 h.0 [] e.0 c.args.after
          c.requires.turn.1 h.1 e.1 e.2 e.3,
    )
