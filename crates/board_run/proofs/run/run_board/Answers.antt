use Rattle.board_run.proofs.Common.{◌≡◌, ◌∙◌, length, subst, Setup, named_by, schedule_of, IsBenchOver}
use Rattle.board_run.proofs.Lemmas.{bench_over}
use Rattle.board_run.proofs.run.run_board.Goals as goal

pub returns : goal.returns
returns g c =
    let named = c.run.view_is in
    let e = c.answer_board-closed.ensures in record {
      setup = e.setup ∙ named;
      row = c.settle_at_chosen_prices.ensures.0;
      settled = c.settle_at_chosen_prices.ensures.1;
      buffer = subst (λ (b : Setup). length (schedule_of c.run.inside.buffer.response).on ≡ b.market.periods) named
          c.run.invariant.1.horizon;
      bench = subst (λ (b : Setup). IsBenchOver b.market c.answer_board-closed.result.1) named
          (bench_over (named_by c.run.inside.workers.items).market c.answer_board-closed.result.1 e.bench);
    }
