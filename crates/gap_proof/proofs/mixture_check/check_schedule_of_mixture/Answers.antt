use Rattle.std.proofs.Common.{rules}
use Rattle.gap_proof.proofs.mixture_check.check_schedule_of_mixture.Goals as goal

-- (found at once by this search alone, and slowly by all that is tried without an answer)
pub returns-in-Ok : goal.returns-in-Ok
returns-in-Ok c = search rules
