pub mod Checks
pub mod Costs
pub mod States
pub mod Totals
