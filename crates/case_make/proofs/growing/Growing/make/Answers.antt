use Rattle.case_make.proofs.Common.{ap, map, schedule_of}
use Rattle.case_make.proofs.Lemmas.{no_sums}
use Rattle.case_make.proofs.growing.Growing.make.Goals as goal

pub returns-clause-summed : goal.returns-clause-summed
returns-clause-summed c = no_sums _ _ (ap (map schedule_of) c.in_ok-responses.ensures.empty) c.in_ok-power.ensures
