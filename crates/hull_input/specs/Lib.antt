pub mod Files
pub mod Planned
pub mod Steps
pub mod Sizes
pub mod Answers
pub mod Laws
