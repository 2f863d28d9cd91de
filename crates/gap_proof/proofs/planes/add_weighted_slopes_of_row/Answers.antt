use Rattle.gap_proof.proofs.Common.{rules, ◌≡◌, ℤ, pos, ◌+ℤ◌, ◌*ℤ◌, FitsSigned, sym, ap, subst, ◌∙◌, arith, to_z-of_z}
use Rattle.gap_proof.proofs.Common.{w64, w128, market_of, proposal_of, int_at, slope_at, IsSlopeSum}
use Rattle.gap_proof.proofs.Lemmas.{before_turn, added_more}
use Rattle.gap_proof.proofs.planes.add_weighted_slopes_of_row.Goals as goal

pub slope_sum_with_row-requires-clause-sum : goal.slope_sum_with_row-requires-clause-sum
slope_sum_with_row-requires-clause-sum c =
    let f : FitsSigned w128 c.get.result.now = search rules in
    let test = c.loop-index-test.true in
    let length_is = c.requires.length in
    let size =
    subst IsSlopeSum
    (sym (before_turn c.args.slopes.now.items c.loop-index.slopes.items _ c.loop-index.index c.get.result.now
    c.loop-index.invariant.added c.get.ensures.item))
    (c.requires.sums c.loop-index.index (pos 0) (omega (arith, test, length_is))) in
    simp to_z-of_z size

pub loop-index-preserved : goal.loop-index-preserved
loop-index-preserved c =
    let m = market_of c.args.case.now in
    let r = proposal_of c.args.row.now in
    let k = c.loop-index.index in
    let w = c.ranges.weight in
    let f : FitsSigned w128 c.get.result.now = search rules in
    let d : FitsSigned w64 c.slope_of_row.result = search rules in
    let g : FitsSigned w128 c.slope_sum_with_row.result = search rules in
    let known = simp to_z-of_z at c.loop-index.invariant.added in
    let is = simp to_z-of_z at c.set.ensures.items in
    let called = simp to_z-of_z at c.slope_sum_with_row.ensures in
    let value : c.slope_sum_with_row.result ≡ int_at c.args.slopes.now.items k +ℤ (c.args.weight *ℤ slope_at m r k) =
    called ∙ ap (λ (z : ℤ). z +ℤ (c.args.weight *ℤ c.slope_of_row.result))
    (before_turn c.args.slopes.now.items c.loop-index.slopes.items _ k c.get.result.now known c.get.ensures.item) ∙
    ap (λ (z : ℤ). int_at c.args.slopes.now.items k +ℤ (c.args.weight *ℤ z)) c.slope_of_row.ensures.value in
    let test = c.loop-index-test.true in
    let length_is = c.requires.length in
    let same = known.same_length in
    let next = added_more c.args.slopes.now.items c.loop-index.slopes.items c.set.new.self.items
    (λ j. c.args.weight *ℤ slope_at m r j) k c.slope_sum_with_row.result known (omega (arith, test, length_is, same)) is
    value in
    let spare = c.set.ensures.spare in
    let held = c.loop-index.invariant.spare in
    record { added = simp to_z-of_z next; spare = spare ∙ held }
