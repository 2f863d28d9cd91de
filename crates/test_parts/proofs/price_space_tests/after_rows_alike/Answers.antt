use Rattle.test_parts.proofs.Common.{rules, FitsSigned, ℤ, pos, ◌≤ℤ◌, List, map, sym, subst, arith, All, All-map}
use Rattle.test_parts.proofs.Common.{All-weaker, ints, to_z-of_z, w128, IsRowBelow, Market, market_of, proposal_of, Row}
use Rattle.test_parts.proofs.price_space_tests.after_rows_alike.Goals as goal

no_better : (value cost : ℤ) → value ≤ℤ pos 0 → pos 0 ≤ℤ cost → value ≤ℤ cost
no_better value cost low some = omega (arith, ints)

-- a value of at most 0 is no better than any cost that isn't negative
below_more : (m : Market) (cost : ℤ) → pos 0 ≤ℤ cost → (r : Row) → IsRowBelow m (pos 0) (proposal_of r) →
    IsRowBelow m cost (proposal_of r)
below_more m cost some r h =
    record { row = h.row; value = h.value; at_most = no_better (proposal_of r).value cost h.at_most some }

pub next_prices-requires-clause-rows : goal.next_prices-requires-clause-rows
next_prices-requires-clause-rows c =
    let m = market_of c.args.case.now in
    let gap = c.args.gap in
    let fits : FitsSigned w128 gap = search rules in
    let rows = c.in_ok-rows.rows.items in
    let below : All (λ (r : Row). IsRowBelow m gap (proposal_of r)) rows =
    All-weaker (λ (r : Row). IsRowBelow m (pos 0) (proposal_of r)) (λ (r : Row). IsRowBelow m gap (proposal_of r))
    (below_more m gap c.requires.gap.at_least) rows c.in_ok-rows.ensures.rows in
    let all = All-map (IsRowBelow m gap) proposal_of rows below in
    subst (λ (z : ℤ). All (IsRowBelow m z) (map proposal_of c.as_slice.result.now)) (sym (to_z-of_z w128 gap fits))
    (subst (λ (xs : List Row). All (IsRowBelow m gap) (map proposal_of xs)) (sym c.as_slice.ensures.value) all)
