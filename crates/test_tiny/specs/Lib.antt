pub mod Counts
pub mod Money
pub mod Rules
pub mod Small
pub mod Tries
