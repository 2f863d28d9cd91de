use Rattle.convex_search.proofs.Common.{rules, w64, FitsSigned, to_z-of_z}
use Rattle.std.specs.Int.{w128}
use Rattle.convex_search.proofs.short.is_bound_within_allowed_gap.Goals as goal

pub returns-then-made-goal : goal.returns-then-made-goal
returns-then-made-goal c = λ t lt.
    let within : FitsSigned w64 c.args.goal.within = search rules in
    let bound : FitsSigned w128 c.args.bound = search rules in
    let value : FitsSigned w128 c.args.best.now.value = search rules in
    let near = c.is_bound_within_or_near.ensures t in
    rw (
      to_z-of_z w64 c.args.goal.within within,
      to_z-of_z w128 c.args.bound bound,
      to_z-of_z w128 c.args.best.now.value value,
    ) at near
