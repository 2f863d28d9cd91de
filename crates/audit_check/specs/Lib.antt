pub mod Sums
pub mod Jobs
pub mod Rows
