-- The names from elsewhere that the proofs here cite.
pub mod Common
-- crew.rt: the callers whose seats are out
pub mod Outs
-- crew.rt: nobody halts, so the board has finished
pub mod CrewLaws
-- run.rt: the bench that the owner leaves
pub mod BenchLaws
-- fixed.rt: the second run of `hull fixed`
pub mod FixedLaws
-- The lemmas that answers cite.
pub mod Lemmas
