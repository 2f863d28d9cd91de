use Rattle.hull_report.proofs.Common.{◌-ℤ◌, refl, rules, w64, w128, to_z-of_z, certificate_of}
use Rattle.hull_report.proofs.certified.certificate_lines.Goals as goal

pub returns : goal.returns
unfolding certificate_of
returns c =
    let value = c.args.settled.now.row.value in
    rw (
      c.unit_count.ensures.value,
      to_z-of_z w128 c.args.cost (search rules),
      to_z-of_z w128 c.args.within.bound (search rules),
      to_z-of_z w128 value (search rules),
      to_z-of_z w128 c.args.settled.now.settlement.surplus (search rules),
      to_z-of_z w128 c.args.settled.now.settlement.total (search rules),
      to_z-of_z w128 (c.args.cost -ℤ value) (search rules),
      to_z-of_z w128 (c.args.within.bound -ℤ value) (search rules),
      to_z-of_z w128 c.least_uplift.result (search rules),
      c.least_uplift.ensures,
      to_z-of_z w128 c.args.cost (search rules),
      to_z-of_z w128 c.args.within.bound (search rules),
      c.unsigned_abs.ensures.value,
      to_z-of_z w64 c.args.within.radius (search rules),
    ) refl
