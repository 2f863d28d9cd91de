-- what a plan earns at prices
pub mod Earned
-- what it is settled at
pub mod Settled
-- what holds of every settlement
pub mod Laws
