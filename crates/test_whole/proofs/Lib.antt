-- The names from elsewhere that the proofs here cite.
pub mod Common
-- what src/steps.rt sees before a step suffices for the step
mod SmallLaws
