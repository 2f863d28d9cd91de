use Rattle.gap_proof.proofs.Common.{market_of}
use Rattle.gap_proof.specs.Mixtures.{mixture_of}
use Rattle.gap_proof.proofs.RefusedLaws.{checked}
use Rattle.gap_proof.proofs.mixture_check.check_mixture.Goals as goal

pub returns-clause-feasible : goal.returns-clause-feasible
returns-clause-feasible c = checked (market_of c.args.case.now) (mixture_of c.args.mixture.now)
    c.check_all_schedules_of_mixture.result
    c.requires c.check_all_schedules_of_mixture.ensures
