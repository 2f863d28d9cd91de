use Rattle.board_run.proofs.Common.{◌≡◌, true, sym, subst, Content, IsLegalHistory, has_finished}
use Rattle.board_run.proofs.Lemmas.{all_finished}
use Rattle.board_run.proofs.crew.close_board.Goals as goal

pub join_worker_seats-requires : goal.join_worker_seats-requires
join_worker_seats-requires c = c.requires

pub returns-clause-finished : goal.returns-clause-finished
returns-clause-finished c =
    let same = c.close.ensures.content in
    subst (λ (x : Content). has_finished x ≡ true) (sym same)
    (all_finished c.finished_stays_finished.ensures c.args.board c.join_worker_seats.new.owner
    c.join_worker_seats.ensures.out
    (subst (λ (x : Content). IsLegalHistory x.setup x.events) same c.close.ensures.legal))
