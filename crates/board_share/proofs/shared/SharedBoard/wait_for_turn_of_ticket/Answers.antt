use Rattle.board_share.proofs.Common.{refl, rules, ◌∷◌, ap, ◌∙◌, none, step, content}
use Rattle.board_share.proofs.Lemmas.{looks, took_from}
use Rattle.board_share.proofs.shared.SharedBoard.wait_for_turn_of_ticket.Goals as goal

pub load-requires : goal.load-requires
load-requires g c = (
  search rules,
  search rules,
  looks _ _ _ _ c.requires.ready.1.0 (search rules) (ap (λ m. m.0.stage) c.loop.invariant.4 ∙ c.requires.ready.1.1),
)

pub returns-then-load-ticket-clause-taken : goal.returns-then-load-ticket-clause-taken
returns-then-load-ticket-clause-taken g c =
    let t = took_from c.args.seat.now.me c.loop.seat.me _ (step 1 2 0 0 none) c.requires.ready.1.0 _ _
    c.loop.invariant.4 c.requires.ready.1.1 c.requires.ready.1.2 c.if-load-ticket.true c.load.ensures.2 in (
      content c.args.seat.now.me.0.setup t.0,
      (
        t.1,
        refl,
        (c.requires.ready.1.0, t.2),
        t.3 ∙
            ap (λ l. (0, content c.args.seat.now.me.0.setup t.0) ∷ l) c.requires.ready.0,
      ),
    )
