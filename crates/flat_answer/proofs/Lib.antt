-- The names from elsewhere that the proofs here cite.
pub mod Common
-- ---- src/renewables.rt and src/bids.rt: place by place
-- renewable units and bids earn place by place
pub mod Forms
-- the least best power at each place makes the least best schedule
pub mod Places
-- no schedule comes before one whose powers are at most its own
pub mod Ordered
-- ---- one place
-- the best power at a price: all where it is paid for, else as little as allowed
pub mod Powers
-- a bid's best power: all blocks whose price is above the energy price
pub mod Blocks
-- The lemmas that answers cite.
pub mod Lemmas
