use Rattle.plan_settle.proofs.Held.{held_are_those}
use Rattle.plan_settle.proofs.held_laws.schedules_of_fixed_unit_keep_its_commitment.Goals as goal

pub returns : goal.returns
returns c = held_are_those
