pub mod Words
pub mod FaultLines
pub mod Sources
