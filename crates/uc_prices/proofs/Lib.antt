-- The names from elsewhere that the proofs here cite.
pub mod Common
-- entries.rt: a price that passed its tests is within the limits of its list
pub mod Fits
-- read.rt: the answer of the reader is the only one
pub mod Answered
-- entries.rt: the prices of a list, read one after the other as a loop does
pub mod Loops
-- laws.rt: what the prices of a file keep
pub mod FormLaws
