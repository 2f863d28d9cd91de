use Rattle.board_core.proofs.Common.{length, sym, ap, ◌∙◌, PriceLists, task_unit, prices_of, blank, own_prices_in}
use Rattle.board_core.proofs.Common.{setup_of}
use Rattle.board_core.proofs.Lemmas.{no_difference}
use Rattle.board_core.proofs.posts.difference_from_task_of_board.Goals as goal

pub fill_task-requires-clause-horizon : goal.fill_task-requires-clause-horizon
fill_task-requires-clause-horizon c = ap (λ (π : PriceLists). length π.energy) (c.prices-prices.ensures (blank 0)) ∙
    c.requires.horizon (blank 0)

pub returns-then-is_task_unit_same_as_case_unit-clause-differs :
    goal.returns-then-is_task_unit_same_as_case_unit-clause-differs
returns-then-is_task_unit_same_as_case_unit-clause-differs c =
    let t = c.args.task.now in
    let prices = sym (c.prices-prices.ensures (blank 0)) ∙ c.same_prices.ensures.0 c.if-same_prices.true in
    sym (no_difference c.lists_differ_at_first_unequal_number.ensures (setup_of c.args.terms.now) t.unit
    (own_prices_in c.args.ledger.now t.proposal) (prices_of t.prices) (task_unit t) prices
    (c.is_task_unit_same_as_case_unit.ensures c.if-is_task_unit_same_as_case_unit.true))
