-- The names from elsewhere that the proofs here cite.
pub mod Common
-- a home counts its cells or it doesn't
pub mod HomeLaws
-- ---- src/laws.rt
-- a call on one shape leaves the shapes that are apart from it
pub mod FrameLaws
-- the cells of a chain of calls
pub mod ChainLaws
-- ---- src/curves.rt
-- what a block adds, as it is stored
pub mod BlockLaws
-- the value of a curve at a power, found block by block
pub mod ReachLaws
-- The lemmas that answers cite.
pub mod Lemmas
