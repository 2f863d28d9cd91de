-- The names from elsewhere that the proofs here cite.
pub mod Common
-- search.rt, oracle.rt: what all units earn
pub mod Earning
-- bounds.rt: a box with all prices in it
pub mod Everywhere
-- find.rt: one dual value
pub mod JsonTextHasOneValue
