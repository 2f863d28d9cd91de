-- The names from elsewhere that the proofs here cite.
pub mod Common
-- ---- src/pool.rt
-- lists of cells that are taken, stored and given back
mod WalkLaws
-- ---- src/read.rt
-- what is read off a list of cells, cell by cell
mod ReadLaws
-- ---- src/steps.rt
-- a step on the first knots of a work list is the step on their function
mod ListLaws
-- ---- src/pooled.rt
-- a call that changes only its own cells leaves the shapes that are apart from them
mod FrameLaws
-- The lemmas that answers cite.
pub mod Lemmas
