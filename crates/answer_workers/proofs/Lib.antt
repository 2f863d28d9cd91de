-- The names from elsewhere that the proofs here cite.
pub mod Common
-- tasks.rt, worker.rt: the bench of a worker suffices for each unit of the case
pub mod BenchLaws
-- visit.rt: a call goes on with what the seat had seen
pub mod Going
-- visit.rt: what the answer of a claim tells
pub mod Told
-- visit.rt, waiting.rt, work.rt, all.rt: a worker that has worked still is one
pub mod Steady
-- visit.rt, work.rt: the tasks that a worker holds, of which one is given or answered
pub mod Holding
-- all.rt: rows of workers, of which one after another works
pub mod Rows
-- The lemmas that answers cite.
pub mod Lemmas
