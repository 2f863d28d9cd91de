-- The names from elsewhere that the proofs here cite.
pub mod Common
-- answers.rt: what a run leaves
pub mod AnswerLaws
-- lib.rt: a run that is ready completes its command
pub mod RestLaws
-- end.rt: the status of a run whose text was written
pub mod WriteLaws
-- end.rt, answers.rt: how a run ends
pub mod EndLaws
-- end.rt: how many workers a run has
pub mod WorkerLaws
-- The lemmas that answers cite.
pub mod Lemmas
