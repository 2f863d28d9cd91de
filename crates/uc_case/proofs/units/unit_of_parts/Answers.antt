use Rattle.uc_case.specs.Parts.{lists_of}
use Rattle.uc_case.proofs.Lemmas.{power_stored, output_stored, thermal_fits}
use Rattle.uc_case.proofs.units.unit_of_parts.Goals as goal

pub invariant_of-result : goal.invariant_of-result
invariant_of-result c =
    let o = c.requires.range in
    let r = c.requires.ramps in
    rw (
      power_stored c.args.output.least o.least,
      output_stored c.args.output.most o.most,
      power_stored c.args.ramps.up r.up,
      power_stored c.args.ramps.down r.down,
      power_stored c.args.ramps.start r.start,
      power_stored c.args.ramps.stop r.stop,
      output_stored c.args.past.power c.requires.past.power,
    ) (record {
      valid = thermal_fits c.args.output c.args.ramps c.args.past (lists_of c.args.lists) c.args.periods o r
          c.requires.past c.requires.lists c.requires.some c.requires.horizon;
    })
