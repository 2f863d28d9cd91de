use Rattle.slope_list.proofs.Common.{◌≡◌, arith, to_z, of_z, ◌+ℤ◌, w64, ints}
use Rattle.slope_list.proofs.progress.write_run_piece.Goals as goal

pub write_part_over_cost_blocks-requires-clause-costs : goal.write_part_over_cost_blocks-requires-clause-costs
write_part_over_cost_blocks-requires-clause-costs c = λ x from to. c.requires.costs x from (omega (arith, ints))

pub returns-clause-drawn : goal.returns-clause-drawn
returns-clause-drawn c =
    let piece = c.args.piece in
    let run = c.args.run in
    let end : to_z w64 (of_z w64 (to_z w64 (of_z w64 piece.end) +ℤ to_z w64 (of_z w64 run.shift))) ≡ piece.end
    +ℤ run.shift = omega (arith, ints) in
    let slope : to_z w64 (of_z w64 (to_z w64 (of_z w64 piece.slope) +ℤ to_z w64 (of_z w64 run.slope))) ≡ piece.slope
    +ℤ run.slope = omega (arith, ints) in
    rw (end, slope) at c.write_part_over_cost_blocks.ensures.drawn
