use Rattle.board_run.proofs.Common.{◌+◌, sym, length, subst, Setup, IsCrew, setup_of}
use Rattle.plan_settle.specs.RunRooms.{HasRunRoom}
use Rattle.board_run.proofs.Lemmas.{crew_names}
use Rattle.board_run.proofs.run.open_run.Goals as goal

pub invariant_of-result : goal.invariant_of-result
invariant_of-result c =
    let board = c.in_ok-board.board in
    let ws = c.in_ok-board.workers.items in
    let names = crew_names (setup_of c.args.terms) board ws c.in_ok-board.ensures in
    let earned = length c.in_ok-buffer.earned.items + c.in_ok-buffer.earned.spare in
    let rooms : HasRunRoom (setup_of c.args.terms) c.in_ok-buffer.buffer c.in_ok-buffer.settlement earned = record {
      horizon = c.in_ok-buffer.ensures.horizon;
      scheduled = c.in_ok-buffer.ensures.scheduled;
      payments = c.in_ok-buffer.ensures.payments;
      numbers = c.in_ok-buffer.ensures.numbers;
    } in (
      subst (λ (b : Setup). IsCrew b board ws) (sym names) c.in_ok-board.ensures,
      subst (λ (b : Setup). HasRunRoom b c.in_ok-buffer.buffer c.in_ok-buffer.settlement earned) (sym names) rooms,
    )

pub returns : goal.returns
returns c = crew_names (setup_of c.args.terms) c.in_ok-board.board c.in_ok-board.workers.items c.in_ok-board.ensures
