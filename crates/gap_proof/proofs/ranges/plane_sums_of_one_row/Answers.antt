use Rattle.gap_proof.proofs.Common.{pos, [], ◌∙◌, arith, ints, market_of, proposal_of}
use Rattle.gap_proof.proofs.Lemmas.{sums_none, sums_more, slope_sizes}
use Rattle.gap_proof.proofs.ranges.plane_sums_of_one_row.Goals as goal

pub add_weighted_plane_of_row-requires-clause-slopes : goal.add_weighted_plane_of_row-requires-clause-slopes
add_weighted_plane_of_row-requires-clause-slopes c =
    let m = market_of c.args.case.now in
    let wide = c.requires.length in
    let none = sums_none m c.clear_slopes.new.slopes.items (c.clear_slopes.ensures.length ∙ wide)
    (λ j lt. c.clear_slopes.ensures.zeros j (omega (arith, lt, wide))) in
    slope_sizes m [] [] (pos 0) (pos 0) c.clear_slopes.new.slopes.items none (omega arith)

pub returns-clause-sums : goal.returns-clause-sums
returns-clause-sums c =
    let m = market_of c.args.case.now in
    let wide = c.requires.length in
    let none = sums_none m c.clear_slopes.new.slopes.items (c.clear_slopes.ensures.length ∙ wide)
    (λ j lt. c.clear_slopes.ensures.zeros j (omega (arith, lt, wide))) in
    sums_more m [] [] (pos 0) (pos 0) c.clear_slopes.new.slopes.items none (pos 1) (proposal_of c.args.row.now)
    c.add_weighted_plane_of_row.result.height c.add_weighted_plane_of_row.result.weight
    c.add_weighted_plane_of_row.new.slopes.items
    c.args.case.now.valid c.requires.row.row (record { at_least = omega (arith, ints); at_most = omega (arith, ints) })
    c.add_weighted_plane_of_row.ensures.height c.add_weighted_plane_of_row.ensures.step
    c.add_weighted_plane_of_row.ensures.weight c.add_weighted_plane_of_row.ensures.length
    c.add_weighted_plane_of_row.ensures.slopes
