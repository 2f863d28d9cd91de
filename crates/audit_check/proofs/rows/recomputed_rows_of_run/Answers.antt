use Rattle.audit_check.proofs.Common.{◌≡◌, map, sym, ap, ◌∙◌, subst, arith, rules, ◌++◌, ◌∷◌, [], List, to_z-of_z}
use Rattle.audit_check.proofs.Common.{length-map, w128, IsTrue, IsFalse, market_of, proposal_of, prices_of, map-append}
use Rattle.audit_check.proofs.Common.{IsRunSoFar, IsNextProposal, IsLast}
use Rattle.uc_model.specs.declared.cases.Row.{Row}
use Rattle.audit_check.proofs.Lemmas.{row_below, goes_on, ends_at_budget, ends_settled, cost_worth, one_longer}
use Rattle.audit_check.proofs.rows.recomputed_rows_of_run.Goals as goal

pub write_next_prices-requires-clause-cost : goal.write_next_prices-requires-clause-cost
write_next_prices-requires-clause-cost g c =
    rw (to_z-of_z w128 c.args.cost c.ranges.cost)
    (cost_worth c.plan_costs_are_within.ensures (market_of c.args.case.now) c.args.cost c.args.case.now.valid
    c.requires.cost)

pub loop-preserved : goal.loop-preserved
loop-preserved g c =
    let m = market_of c.args.case.now in
    let known = c.loop.invariant in
    let rows = map proposal_of c.loop.rows.items in
    let yes : IsTrue c.write_next_prices.result = search rules in
    let r = proposal_of c.in_ok-row.row in
    let π = prices_of c.write_next_prices.new.into in
    let after : IsNextProposal m c.args.cost c.args.ahead (map proposal_of c.as_slice.result.now) π =
    rw (to_z-of_z w128 c.args.cost c.ranges.cost) at (c.write_next_prices.ensures.next yes) in
    let next = subst (λ (xs : List Row). IsNextProposal m c.args.cost c.args.ahead (map proposal_of xs) π)
    c.as_slice.ensures after in
    let at = c.in_ok-row.ensures.row in
    let below = row_below c.units_are_within.ensures c.outputs_are_within.ensures
    c.power_and_reserve_totals_are_within.ensures
    c.dual_values_are_within.ensures c.dual_is_at_most_cost.ensures
    m c.args.cost π r c.args.case.now.valid c.write_next_prices.new.into.valid c.write_next_prices.ensures.horizon
    c.requires.cost at in
    let more = goes_on m c.args.cost c.args.ahead c.requires.ahead.0 rows
    (rw (to_z-of_z w128 c.args.cost c.ranges.cost) at known.run) π r next at below in
    let pushed : map proposal_of c.push.new.self.items ≡ rows ++ r ∷ [] = ap (map proposal_of) c.push.ensures.items ∙
    map-append proposal_of c.loop.rows.items (c.in_ok-row.row ∷ []) in
    let long = one_longer c.loop.rows.items c.push.new.self.items c.in_ok-row.row c.push.ensures.items in
    let spare = c.push.ensures.spare in
    let test = c.loop-test.true in
    let was = known.long in
    let room = known.room in
    record {
      run = rw (to_z-of_z w128 c.args.cost c.ranges.cost)
          (subst (IsRunSoFar m c.args.cost c.args.ahead) (sym pushed) more);
      long = omega (arith, long, was);
      within = omega (arith, test);
      room = omega (arith, room, spare);
      count = c.in_ok-row.ensures.count ∙ known.count;
      jobs = c.in_ok-row.ensures.jobs;
    }

pub returns-then-not-write_next_prices-clause-run : goal.returns-then-not-write_next_prices-clause-run
returns-then-not-write_next_prices-clause-run g c =
    let m = market_of c.args.case.now in
    let known = c.loop.invariant in
    let rows = map proposal_of c.loop.rows.items in
    let no : IsFalse c.write_next_prices.result = search rules in
    let after : IsLast m c.args.cost c.args.ahead (map proposal_of c.as_slice.result.now) =
    rw (to_z-of_z w128 c.args.cost c.ranges.cost) at (c.write_next_prices.ensures.last no) in
    let last = subst (λ (xs : List Row). IsLast m c.args.cost c.args.ahead (map proposal_of xs)) c.as_slice.ensures
    after in
    let was = known.long in
    let within = known.within in
    ends_settled m c.args.cost c.args.ahead c.requires.ahead.0 rows
    (rw (to_z-of_z w128 c.args.cost c.ranges.cost) at known.run) c.args.budget
    (omega (arith, was, within, length-map c.loop.rows.items proposal_of)) last

pub returns-clause-run : goal.returns-clause-run
returns-clause-run g c =
    let m = market_of c.args.case.now in
    let known = c.loop.invariant in
    let was = known.long in
    let within = known.within in
    let test = c.loop-test.false in
    ends_at_budget m c.args.cost c.args.ahead c.requires.ahead.0 (map proposal_of c.loop.rows.items)
    (rw (to_z-of_z w128 c.args.cost c.ranges.cost) at known.run) c.args.budget
    (omega (arith, was, within, test, length-map c.loop.rows.items proposal_of))
