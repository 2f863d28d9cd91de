use Rattle.case_make.proofs.Common.{◌+◌, [], ◌∷◌, ◌++◌, List, map, ap, sym, ◌∙◌, arith, map-range_with_len_more}
use Rattle.case_make.proofs.Common.{range_with_len, Point, point_of}
use Rattle.case_make.proofs.units.cost_points.Goals as goal

pub loop-index-preserved : goal.loop-index-preserved
loop-index-preserved c =
    let d = c.args.draws.now in
    let next = c.loop-index.index + 1 in
    let room = c.loop-index.invariant.room in
    let spare = c.push-in-loop-index.ensures.spare in
    record {
      so_far = c.push-in-loop-index.ensures.items
          ∙ ap (λ (xs : List Point). xs ++ c.cost_point-in-loop-index.result ∷ []) c.loop-index.invariant.so_far
          ∙ ap (λ (p : Point). map (point_of d) (range_with_len 0 next) ++ p ∷ []) c.cost_point-in-loop-index.ensures
          ∙ sym (map-range_with_len_more (point_of d) 0 next next (omega arith));
      last_cost = c.cost_at_next_curve_point-cost.ensures;
      room = omega (arith, room, spare);
    }
