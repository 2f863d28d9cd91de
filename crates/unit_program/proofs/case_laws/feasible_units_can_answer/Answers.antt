use Rattle.unit_program.proofs.Lemmas.{can_answer}
use Rattle.unit_program.proofs.case_laws.feasible_units_can_answer.Goals as goal

pub returns : goal.returns
returns c = can_answer
