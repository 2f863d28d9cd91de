use Rattle.ramp_step.proofs.LeastLaws.{MovesParts-convex}
use Rattle.ramp_step.proofs.Lemmas.{AreWindow-spread}
use Rattle.ramp_step.proofs.law.window_moves_parts.Goals as goal

pub returns-clause-function : goal.returns-clause-function
returns-clause-function c = λ f a b m up down convex first last least is_up is_down. MovesParts-convex f a b m convex
    first last least up down is_up is_down

pub returns-clause-knots : goal.returns-clause-knots
returns-clause-knots c = AreWindow-spread
