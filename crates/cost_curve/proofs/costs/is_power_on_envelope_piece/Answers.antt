use Rattle.std.proofs.Common.{rules}
use Rattle.cost_curve.proofs.costs.is_power_on_envelope_piece.Goals as goal

-- (found at once by this search alone, and slowly by all that is tried without an answer)
pub bounds-points-piece : goal.bounds-points-piece
bounds-points-piece c = search rules

pub returns-then-x-points : goal.returns-then-x-points
returns-then-x-points c = search rules

pub bounds-points-edge : goal.bounds-points-edge
bounds-points-edge c = search rules

pub returns-in-Some : goal.returns-in-Some
returns-in-Some c = search rules

pub returns-in-None : goal.returns-in-None
returns-in-None c = search rules
