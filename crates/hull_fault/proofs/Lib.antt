-- The names from elsewhere that the proofs here cite.
pub mod Common
-- line.rt: the line of a fault of a unit
mod FaultTexts
-- The lemmas that answers cite.
pub mod Lemmas
