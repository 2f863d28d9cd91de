-- The names from elsewhere that the proofs here cite.
pub mod Common
-- listed.rt: the members of an object, read one after the other as a loop does
pub mod Members
-- cases.rt, units.rt: what was read is within the limits of its type
pub mod Limited
-- read.rt: the answer of the reader is the only one
pub mod Answered
-- the definition of a case, on trees that were worked by hand
pub mod Worked
-- The lemmas that answers cite.
pub mod Lemmas
