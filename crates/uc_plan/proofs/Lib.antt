-- The names from elsewhere that the proofs here cite.
pub mod Common
-- numbers.rt: the numbers of a list, read one after the other as a loop does
pub mod Loops
-- lookup.rt: look-ups by name, while a map or a set of names is filled from the last one on
pub mod Lookups
-- plans.rt: the schedules of units, read one after the other as a loop does
pub mod Schedules
-- plans.rt: the schedules of the three kinds make up the plan
pub mod Joined
-- read.rt: the answer of the reader is the only one
pub mod Answered
-- the definition of a plan, on trees that were worked by hand
pub mod Worked
-- The lemmas that answers cite.
pub mod Lemmas
