use Rattle.audit_check.proofs.Common.{map, take, length, sym, ap, ◌∙◌, subst, arith, to_z-of_z, length-map, w128}
use Rattle.audit_check.proofs.Common.{All-take, All, IsRowBelow, PriceLists, market_of, proposal_of, prices_of}
use Rattle.audit_check.proofs.Common.{start_price}
use Rattle.audit_check.proofs.Lemmas.{as_long, next_is, last_is, past_long}
use Rattle.audit_check.proofs.rows.write_next_prices.Goals as goal

pub opening_prices-requires-clause-lengths : goal.opening_prices-requires-clause-lengths
opening_prices-requires-clause-lengths c =
    let m = market_of c.args.case.now in
    c.requires.horizon ∙ sym (as_long m.periods (start_price m) c.args.start.now.items c.requires.start)

pub returns-then-number-ahead-clause-horizon : goal.returns-then-number-ahead-clause-horizon
returns-then-number-ahead-clause-horizon c =
    let m = market_of c.args.case.now in
    ap (λ (p : PriceLists). length p.energy) c.opening_prices.ensures ∙
    (length-map c.args.start.now.items _ ∙
    as_long m.periods (start_price m) c.args.start.now.items c.requires.start)

pub propose_prices-requires-clause-some : goal.propose_prices-requires-clause-some
propose_prices-requires-clause-some c =
    let long = length-map c.args.rows.now proposal_of in
    let past = length-map c.first_rows-past.result.now proposal_of in
    let late = c.if-number-ahead.false in
    let some = c.requires.some in
    let count = past_long (map proposal_of c.args.rows.now) (map proposal_of c.first_rows-past.result.now) _
    c.first_rows-past.ensures (omega (arith, long, late, some)) in
    omega (arith, count, past, late)

pub propose_prices-requires-clause-count : goal.propose_prices-requires-clause-count
propose_prices-requires-clause-count c =
    let long = length-map c.args.rows.now proposal_of in
    let past = length-map c.first_rows-past.result.now proposal_of in
    let late = c.if-number-ahead.false in
    let some = c.requires.some in
    let few = c.requires.count in
    let count = past_long (map proposal_of c.args.rows.now) (map proposal_of c.first_rows-past.result.now) _
    c.first_rows-past.ensures (omega (arith, long, late, some)) in
    omega (arith, count, past, few)

pub propose_prices-requires-clause-rows : goal.propose_prices-requires-clause-rows
propose_prices-requires-clause-rows c =
    let m = market_of c.args.case.now in
    rw (to_z-of_z w128 c.args.cost c.ranges.cost)
    (subst (All (IsRowBelow m c.args.cost)) (sym c.first_rows-past.ensures)
    (All-take (IsRowBelow m c.args.cost) _ (map proposal_of c.args.rows.now) c.requires.rows))

pub returns-clause-next : goal.returns-clause-next
returns-clause-next c = λ yes.
    let m = market_of c.args.case.now in
    let rows = map proposal_of c.args.rows.now in
    let long = length-map c.args.rows.now proposal_of in
    let late = c.if-number-ahead.false in
    next_is m c.args.cost c.args.ahead c.requires.some rows (map proposal_of c.first_rows-past.result.now)
    (c.first_rows-past.ensures ∙ ap (λ n. take n rows) (omega (arith, long, late))) (omega (arith, long, late))
    (prices_of c.propose_prices.new.into) c.propose_prices.result
    (rw (to_z-of_z w128 c.args.cost c.ranges.cost) at c.propose_prices.ensures.settled)
    (rw (to_z-of_z w128 c.args.cost c.ranges.cost) at c.propose_prices.ensures.prices) yes

pub returns-clause-last : goal.returns-clause-last
returns-clause-last c = λ no.
    let m = market_of c.args.case.now in
    let rows = map proposal_of c.args.rows.now in
    let long = length-map c.args.rows.now proposal_of in
    let late = c.if-number-ahead.false in
    last_is m c.args.cost c.args.ahead c.requires.some rows (map proposal_of c.first_rows-past.result.now)
    (c.first_rows-past.ensures ∙ ap (λ n. take n rows) (omega (arith, long, late))) (omega (arith, long, late))
    c.propose_prices.result (rw (to_z-of_z w128 c.args.cost c.ranges.cost) at c.propose_prices.ensures.settled) no
