-- The names from elsewhere that the proofs here cite.
pub mod Common
-- read.rt: the answer of the reader is the only one
pub mod Answered
-- entries.rt, units.rt: entries and units, read one after the other as a loop does
pub mod Loops
-- weights.rt: a weight that passed its tests is within its limits
pub mod WeightLaws
-- mixtures.rt: what was read has the shape of a mixture
pub mod Shapes
-- mixtures.rt: a step that fails ends the reading, and steps that don't make up the mixture
pub mod Steps
