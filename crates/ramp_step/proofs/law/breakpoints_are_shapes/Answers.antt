use Rattle.ramp_step.proofs.BreakpointLaws.{IsShape-breakpoints, AreBreakpoints-shape}
use Rattle.ramp_step.proofs.law.breakpoints_are_shapes.Goals as goal

pub returns-clause-shapes : goal.returns-clause-shapes
returns-clause-shapes c = IsShape-breakpoints

pub returns-clause-breakpoints : goal.returns-clause-breakpoints
returns-clause-breakpoints c = AreBreakpoints-shape
