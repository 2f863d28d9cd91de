-- The names from elsewhere that the proofs here cite.
pub mod Common
-- ---- src/steps.rt
-- a step on a list that is long enough, whose knots are then kept, is the step on its function
pub mod ListLaws
