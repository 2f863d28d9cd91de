-- The names from elsewhere that the proofs here cite.
pub mod Common
-- ---- src/breakpoint.rt and every step
-- laws of knots, over the powers p and the heights v by index
pub mod KnotLaws
-- products with the next number, the one before, and with 1 and -1
pub mod TimesLaws
-- knots with free cells between them
pub mod SpacedLaws
-- knots with whole slopes that don't fall are those that stand for a convex function
pub mod BreakpointLaws
-- ---- src/splitting.rt and src/cutting.rt
-- division without a remainder, and values along a line
pub mod DivLaws
-- knots that are dropped, put at an end, or put in between
pub mod CutLaws
-- ---- src/curve.rt
-- a curve is straight within a block, and convex where prices don't fall
pub mod CurveLaws
-- heights are raised block by block
pub mod RaiseLaws
-- a curve of blocks is the term that the step on knots adds
pub mod CurveShapeLaws
-- ---- src/kink.rt
-- the worth of the reserve is straight on both sides of its kink, and convex
pub mod KinkLaws
-- ---- src/window.rt
-- knots whose falling part is moved by -down, and whose rising part by up, stand for the window
pub mod SpreadLaws
-- the window of a convex function: the falling part moves by -down, the rising part by up, the flat part is between
pub mod WindowLaws
-- ---- src/read.rt
-- where a convex function is least
pub mod LeastLaws
-- the list of values over all powers is the list of the function's values
pub mod ValueLaws
-- ---- what the steps say of tables
-- between knots within the limits every value is within them
pub mod LimitLaws
-- a step on knots is the step on the table that they stand for
pub mod ShapeLaws
-- knots of another list, one after another, stand for the same function
pub mod RunLaws
-- a term that is added to the function of some knots
pub mod StepLaws
-- a convex function is least at its turn, and between two powers nearest to it
pub mod TurnLaws
-- The lemmas that answers cite.
pub mod Lemmas
