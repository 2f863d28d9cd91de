use Rattle.hull_report.proofs.Common.{rules, w128, to_z-of_z, length-map, named_thermal_of, named_renewable_of}
use Rattle.hull_report.proofs.Common.{named_bid_of}
use Rattle.hull_report.specs.CheckText.{check_text}
use Rattle.hull_report.proofs.check.write_check.Goals as goal

pub returns : goal.returns
unfolding check_text
returns g c =
    let case = c.args.case.now in
    rw (
      length-map case.thermal.items named_thermal_of,
      length-map case.flat.items named_renewable_of,
      length-map case.bids.items named_bid_of,
      ← c.len-thermal.ensures,
      ← c.len-flat.ensures,
      ← c.len-bids.ensures,
    ) (rw (to_z-of_z w128 c.args.cost (search rules)) at c.write_form_filled_with_parts.ensures)
