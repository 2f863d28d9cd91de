-- The names from elsewhere that the proofs here cite.
pub mod Common
-- ---- src/earned.rt
-- what prices pay for the power and the reserve of a schedule
pub mod Paid
-- the unit of a number, and what its schedule earns
pub mod Units
-- ---- src/earned.rt and src/settlement.rt
-- what one of a plan's schedules, or a best schedule, earns fits its type
pub mod Bounds
-- ---- src/laws.rt
-- at most one settlement, what it adds up to, and the lists that it has
pub mod Settlements
-- The lemmas that answers cite.
pub mod Lemmas
