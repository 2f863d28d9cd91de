-- The names from elsewhere that the proofs here cite.
pub mod Common
-- ---- src/lib.rt
-- the values and the function, index by index and power by power
pub mod ValueLaws
-- its powers and values are within the limits
pub mod LimitLaws
-- the least of the values is the least of the function
pub mod LeastLaws
-- the least values in reach of the powers between the two ends are the window
pub mod WindowLaws
-- The lemmas that answers cite.
pub mod Lemmas
