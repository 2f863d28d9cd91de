use Rattle.price_space.proofs.Common.{◌*◌, ◌*ℤ◌, to_z-of_z, w128}
use Rattle.price_space.proofs.Squares.{square_within, entry_widened, entry_squared}
use Rattle.price_space.proofs.step.square_of.Goals as goal

pub overflow_mul-result : goal.overflow_mul-result
overflow_mul-result c =
    let e = c.args.entry in
    rw (
      entry_widened e c.from.result c.requires c.ranges.entry c.from.ensures,
      entry_widened e c.from-2.result c.requires c.ranges.entry c.from-2.ensures,
    ) (entry_squared e c.requires)

pub returns-clause-value : goal.returns-clause-value
returns-clause-value c =
    let e = c.args.entry in
    rw (
      entry_widened e c.from.result c.requires c.ranges.entry c.from.ensures,
      entry_widened e c.from-2.result c.requires c.ranges.entry c.from-2.ensures,
    )
    (to_z-of_z w128 (e *ℤ e) (entry_squared e c.requires))

pub returns-clause-bound : goal.returns-clause-bound
returns-clause-bound c =
    let e = c.args.entry in
    rw (
      entry_widened e c.from.result c.requires c.ranges.entry c.from.ensures,
      entry_widened e c.from-2.result c.requires c.ranges.entry c.from-2.ensures,
      to_z-of_z w128 (e *ℤ e) (entry_squared e c.requires),
    ) (square_within 20000000000000 e c.requires)
