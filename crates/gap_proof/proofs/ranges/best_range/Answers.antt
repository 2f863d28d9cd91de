use Rattle.gap_proof.proofs.Common.{rules, FitsSigned, length, map, to_z-of_z, length-map, w128, market_of, proposal_of}
use Rattle.gap_proof.proofs.FirstLeast.{back_chosen, centre_chosen, less_from_test, least_from_test}
use Rattle.gap_proof.proofs.Lemmas.{row_prices}
use Rattle.gap_proof.proofs.ranges.best_range.Goals as goal

pub returns-then-trailing-alone-clause-best : goal.returns-then-trailing-alone-clause-best
returns-then-trailing-alone-clause-best c =
    let m = market_of c.args.case.now in
    let rows = map proposal_of c.args.rows.now in
    let r = proposal_of c.row_at-middle.result.now in
    let q = c.ranges.radius in
    let f : FitsSigned w128 c.best_suffix_bound-trailing.result.bound = search rules in
    let g : FitsSigned w128 c.bound_by_one_row-alone.result.bound = search rules in
    let there = simp to_z-of_z at c.bound_by_one_row-alone.ensures.bound in
    let is = simp to_z-of_z at c.best_suffix_bound-trailing.ensures.bound in
    let least = simp to_z-of_z at c.best_suffix_bound-trailing.ensures.least in
    let earlier = simp to_z-of_z at c.best_suffix_bound-trailing.ensures.earlier in
    let better = simp to_z-of_z at c.if-trailing-alone.true in
    back_chosen m rows c.args.centre c.args.radius r.prices (length c.args.rows.now)
    (row_prices rows c.args.centre r c.row_at-middle.ensures) (length-map c.args.rows.now proposal_of)
    c.best_suffix_bound-trailing.result.first c.best_suffix_bound-trailing.result.last
    c.best_suffix_bound-trailing.result.bound
    c.bound_by_one_row-alone.result.bound there
    c.best_suffix_bound-trailing.ensures.from_one c.best_suffix_bound-trailing.ensures.to_last
    c.best_suffix_bound-trailing.ensures.last is least
    earlier (less_from_test c.best_suffix_bound-trailing.result.bound c.bound_by_one_row-alone.result.bound better)

pub returns-clause-best : goal.returns-clause-best
returns-clause-best c =
    let m = market_of c.args.case.now in
    let rows = map proposal_of c.args.rows.now in
    let r = proposal_of c.row_at-middle.result.now in
    let q = c.ranges.radius in
    let f : FitsSigned w128 c.best_suffix_bound-trailing.result.bound = search rules in
    let g : FitsSigned w128 c.bound_by_one_row-alone.result.bound = search rules in
    let is = simp to_z-of_z at c.bound_by_one_row-alone.ensures.bound in
    let least = simp to_z-of_z at c.best_suffix_bound-trailing.ensures.least in
    let low = simp to_z-of_z at c.if-trailing-alone.false in
    centre_chosen m rows c.args.centre c.args.radius r.prices (length c.args.rows.now)
    (row_prices rows c.args.centre r c.row_at-middle.ensures) (length-map c.args.rows.now proposal_of)
    c.bound_by_one_row-alone.result.first c.bound_by_one_row-alone.result.last c.bound_by_one_row-alone.result.bound
    c.best_suffix_bound-trailing.result.bound
    c.bound_by_one_row-alone.ensures.first c.bound_by_one_row-alone.ensures.last is least
    (least_from_test c.best_suffix_bound-trailing.result.bound c.bound_by_one_row-alone.result.bound low)
