-- The names from elsewhere that the proofs here cite.
pub mod Common
-- shape_laws.rt: a table's value by its offset from the first power
pub mod Lookup
-- shape_laws.rt: each effect keeps convexity, whatever the representation
pub mod ConvexLaws
-- shape_laws.rt: the sum of a convex function and a curve is convex
pub mod CurveLaws
-- shape_laws.rt: each effect keeps powers and values within the limits
pub mod LimitLaws
-- shape_laws.rt: each effect fixes the new function, and is that of any function with the same values
pub mod EffectLaws
-- lines, their parts, sums and moves
pub mod LineLaws
-- pieces and the function that they stand for
pub mod PieceLaws
-- a function as a table, and back
pub mod FunctionLaws
-- falling and rising parts
pub mod ValleyLaws
-- powers among the pieces
pub mod CursorLaws
-- the first and the last power
pub mod RangeLaws
-- numbers that fit 64 bits
pub mod WrapLaws
-- the order of numbers
pub mod OrderLaws
-- one function below another one
pub mod BelowLaws
-- what is read off pieces
pub mod ReadLaws
-- the curve's values block by block
pub mod BlockLaws
-- a walk over the blocks of a curve
pub mod FindLaws
-- pieces that are written one after another
pub mod DrawLaws
-- the kink: the parts of the function less the worth of the reserve
pub mod KinkLaws
-- lines that move with the window, and how many runs are left
pub mod WindowLaws
-- the runs of a window
pub mod RunLaws
-- a function as a table: that it is convex, and what is added to it
pub mod TableLaws
-- a valley as a table, and the window over it
pub mod ReachLaws
-- the progress along a run
pub mod ProgressLaws
-- the parts of a step together
pub mod StepLaws
-- the values of a step are within the limits
pub mod BoundLaws
-- the value of a step at a power
pub mod LevelLaws
-- what is seen of pieces, and of none
pub mod ShownLaws
-- The lemmas that answers cite.
pub mod Lemmas
