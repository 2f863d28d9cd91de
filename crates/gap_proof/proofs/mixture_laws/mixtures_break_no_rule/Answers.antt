use Rattle.gap_proof.proofs.RefusedLaws.{none_refused}
use Rattle.gap_proof.proofs.mixture_laws.mixtures_break_no_rule.Goals as goal

pub returns : goal.returns
returns c = none_refused
