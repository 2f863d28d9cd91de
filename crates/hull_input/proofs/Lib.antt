-- The names from elsewhere that the proofs here cite.
pub mod Common
-- files.rt, commands.rt: one step after another
pub mod StepLaws
-- files.rt, commands.rt, laws.rt: what was read of a file
pub mod ReadLaws
-- commands.rt: what refuses an input with its prices, a mixture or a report
pub mod RefusedLaws
-- files.rt: what a reader refuses
pub mod FaultLaws
-- The lemmas that answers cite.
pub mod Lemmas
