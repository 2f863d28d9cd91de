pub mod FurtherSteps
pub mod Outcome
pub mod Sizes
pub mod Inputs
pub mod Answers
pub mod Rest
pub mod Laws
