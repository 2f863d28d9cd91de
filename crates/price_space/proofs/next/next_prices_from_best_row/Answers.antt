use Rattle.price_space.proofs.Common.{rules, ◌≡◌, ◌-◌, ◌/◌, ◌^◌, min, ℕ, ℤ, pos, ◌*ℤ◌, Some, List, FitsSigned, map}
use Rattle.price_space.proofs.Common.{length, slice_get, ap, ◌∙◌, arith, to_z-of_z, length-map, w128, market_of}
use Rattle.price_space.proofs.Common.{proposal_of, squared_length, All, Row, Proposal, IsFirstUpTo, values_of}
use Rattle.uc_model.specs.Data.{Market}
use Rattle.price_space.specs.Sizes.{IsRowBelow}
use Rattle.price_space.proofs.Lemmas.{stepped_is, last_below}
use Rattle.price_space.proofs.next.next_prices_from_best_row.Goals as goal

-- the last row is one of the rows, so it is below the cost
below : (m : Market) (rows : List Row) (best : ℕ) (r : Proposal) (cost : ℤ) →
    IsFirstUpTo (values_of (map proposal_of rows)) (length rows) best → All (IsRowBelow m cost) (map proposal_of rows) →
    slice_get (map proposal_of rows) (length (map proposal_of rows) - 1) ≡ Some r → IsRowBelow m cost r
below m rows best r cost first rows_below at =
    let lengths = length-map rows proposal_of in
    let some = first.within in
    last_below m (map proposal_of rows) r cost rows_below (omega (arith, lengths, some)) at

pub gap_of_row-gap-requires-clause-row : goal.gap_of_row-gap-requires-clause-row
gap_of_row-gap-requires-clause-row c =
    let cost = c.ranges.cost in
    simp to_z-of_z (below (market_of c.args.case.now) c.args.rows.now c.args.best
    (proposal_of c.last_row-row.result.now)
    c.args.cost c.requires.best c.requires.rows c.last_row-row.ensures)

pub squared_norm_of_direction-norm-requires : goal.squared_norm_of_direction-norm-requires
squared_norm_of_direction-norm-requires c =
    (below (market_of c.args.case.now) c.args.rows.now c.args.best (proposal_of c.last_row-row.result.now) c.args.cost
    c.requires.best c.requires.rows c.last_row-row.ensures).row

pub step_divisor-scale-requires : goal.step_divisor-scale-requires
step_divisor-scale-requires c = search rules

pub returns-then-is_gap_or_direction_zero-clause-settled : goal.returns-then-is_gap_or_direction_zero-clause-settled
returns-then-is_gap_or_direction_zero-clause-settled c = search rules

pub returns-clause-settled : goal.returns-clause-settled
returns-clause-settled c = search rules

pub take_step-requires-clause-row : goal.take_step-requires-clause-row
take_step-requires-clause-row c =
    (below (market_of c.args.case.now) c.args.rows.now c.args.best (proposal_of c.last_row-row.result.now) c.args.cost
    c.requires.best c.requires.rows c.last_row-row.ensures).row

pub take_step-requires-2-clause-row : goal.take_step-requires-2-clause-row
take_step-requires-2-clause-row c =
    (below (market_of c.args.case.now) c.args.rows.now c.args.best (proposal_of c.last_row-row.result.now) c.args.cost
    c.requires.best c.requires.rows c.last_row-row.ensures).row

pub returns-clause-made : goal.returns-clause-made
returns-clause-made c = λ _.
    let m = market_of c.args.case.now in
    let r = proposal_of c.last_row-row.result.now in
    let rows = map proposal_of c.args.rows.now in
    let cost = c.ranges.cost in
    let a : FitsSigned w128 c.gap_of_row-gap.result = search rules in
    let b : FitsSigned w128 c.squared_norm_of_direction-norm.result = search rules in
    let d : FitsSigned w128 c.step_divisor-scale.result = search rules in
    let gap_is = simp to_z-of_z at c.gap_of_row-gap.ensures.value in
    let scale_is = simp to_z-of_z at c.step_divisor-scale.ensures.value in
    let e = simp to_z-of_z at c.take_step.ensures.prices in
    let f = simp to_z-of_z at c.take_step-2.ensures.prices in
    stepped_is m rows r c.args.cost c.gap_of_row-gap.result c.step_divisor-scale.result c.take_step.new.into.items
    c.take_step-2.new.into.items c.last_row-row.ensures gap_is
    (scale_is
    ∙ ap (λ (z : ℤ). z *ℤ pos (2 ^ min 20 (c.rows_since_best.result / 10)))
    c.squared_norm_of_direction-norm.ensures.value
    ∙ ap (λ (n : ℕ). squared_length m r *ℤ pos (2 ^ min 20 (n / 10))) c.rows_since_best.ensures)
    e f
