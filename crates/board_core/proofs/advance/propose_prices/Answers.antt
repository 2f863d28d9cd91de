use Rattle.board_core.proofs.Common.{rules, ℤ, map, sym, subst, arith, FitsSigned, ints, to_z-of_z, length-map, w128}
use Rattle.board_core.proofs.Common.{All, IsWorth, IsRowBelow, market_of, proposal_of, prices_of, setup_of}
use Rattle.board_core.proofs.Lemmas.{moved_over}
use Rattle.board_core.proofs.advance.propose_prices.Goals as goal

pub next_prices_from_best_row-moved-requires-clause-best : goal.next_prices_from_best_row-moved-requires-clause-best
next_prices_from_best_row-moved-requires-clause-best c = c.requires.best

pub next_prices_from_best_row-moved-requires-clause-count : goal.next_prices_from_best_row-moved-requires-clause-count
next_prices_from_best_row-moved-requires-clause-count c = c.requires.count

pub next_prices_from_best_row-moved-requires-clause-rows : goal.next_prices_from_best_row-moved-requires-clause-rows
next_prices_from_best_row-moved-requires-clause-rows c =
    let f : FitsSigned w128 c.args.terms.now.cost = search rules in
    subst (λ (z : ℤ). All (IsRowBelow (market_of c.args.terms.now.case) z) (map proposal_of c.args.rows.now))
    (sym (to_z-of_z w128 c.args.terms.now.cost f)) c.requires.rows

pub next_prices_from_best_row-moved-requires-clause-horizon :
    goal.next_prices_from_best_row-moved-requires-clause-horizon
next_prices_from_best_row-moved-requires-clause-horizon c = c.requires.horizon

pub next_prices_from_best_row-moved-requires-clause-cost : goal.next_prices_from_best_row-moved-requires-clause-cost
next_prices_from_best_row-moved-requires-clause-cost c =
    let f : FitsSigned w128 c.args.terms.now.cost = search rules in
    let S = c.requires.setup in
    let b = setup_of c.args.terms.now in
    let sum = c.plan_costs_are_within.ensures b.market b.plan S.market S.feasible in
    let low = sum.at_least in let high = sum.at_most in let same = S.cost in
    let worth : IsWorth b.cost =
    record { at_least = omega (arith, ints, low, same); at_most = omega (arith, ints, high, same) } in
    subst IsWorth (sym (to_z-of_z w128 c.args.terms.now.cost f)) worth

pub returns-clause-horizon : goal.returns-clause-horizon
returns-clause-horizon c =
    let f : FitsSigned w128 c.args.terms.now.cost = search rules in
    let some = c.requires.best.within in
    let made = simp to_z-of_z at c.next_prices_from_best_row-moved.ensures.made in
    moved_over c.next_prices_from_best_row-moved.result (market_of c.args.terms.now.case) c.args.terms.now.cost
    (map proposal_of c.args.rows.now) (prices_of c.next_prices_from_best_row-moved.new.into) (prices_of c.args.into.now)
    made c.next_prices_from_best_row-moved.ensures.unchanged
    (omega (arith, some, length-map c.args.rows.now proposal_of))
    c.requires.horizon
