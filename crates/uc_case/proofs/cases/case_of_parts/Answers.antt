use Rattle.uc_case.specs.Parts.{needs_of, units_of}
use Rattle.uc_case.proofs.Lemmas.{market_fits}
use Rattle.uc_case.proofs.cases.case_of_parts.Goals as goal

pub invariant_of-result : goal.invariant_of-result
invariant_of-result c = record {
  valid = market_fits c.args.periods (needs_of c.args.needs) (units_of c.args.units) c.requires.some c.requires.horizon
      c.requires.needs c.requires.units c.requires.some_unit;
}
