-- The names from elsewhere that the proofs here cite.
pub mod Common
-- plans.rt: the mixtures that are kept
pub mod Keeping
-- weights.rt: weights that move from one entry to another
pub mod Weighing
-- copies.rt: entries that are copied one after another
pub mod Copying
-- pool.rt: schedules that are put in place of others
pub mod Rescheduling
-- pool.rt: the units of a pool
pub mod Pooling
-- written.rt: the entries that are told
pub mod Telling
