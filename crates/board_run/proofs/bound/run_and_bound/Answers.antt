use Rattle.board_run.proofs.Common.{rules, ◌*◌, length, length-replicate, ap, sym, ◌∙◌, subst, w64, to_z-of_z, Setup}
use Rattle.board_run.proofs.Common.{IsEnded}
use Rattle.board_run.proofs.bound.run_and_bound.Goals as goal

pub returns : goal.returns
returns g c = record {
  ended = subst (λ (b : Setup). IsEnded b c.run_board-done.result) c.in_ok-opened.ensures c.run_board-done.ensures;
  radius_is = to_z-of_z w64 c.args.radius (search rules);
  best = c.best_bound_around_chosen_prices-certified.ensures.best;
  told = c.best_bound_around_chosen_prices-certified.ensures.told;
}

pub best_bound_around_chosen_prices-certified-requires-clause-finished :
    goal.best_bound_around_chosen_prices-certified-requires-clause-finished
best_bound_around_chosen_prices-certified-requires-clause-finished g c = c.run_board-done.ensures.settled.finished

pub best_bound_around_chosen_prices-certified-requires-clause-work :
    goal.best_bound_around_chosen_prices-certified-requires-clause-work
best_bound_around_chosen_prices-certified-requires-clause-work g c = ap length c.in_ok-work.ensures ∙ length-replicate
    _ _ ∙
    ap (λ (b : Setup). 2 * b.market.periods) (sym (c.run_board-done.ensures.setup ∙ c.in_ok-opened.ensures))
