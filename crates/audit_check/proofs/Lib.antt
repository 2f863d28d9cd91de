-- The names from elsewhere that the proofs here cite.
pub mod Common
-- sums.rt, count.rt, answerer.rt, row.rt: sizes of totals, and numbers by their places
pub mod Small
-- answerer.rt, count.rt: what a job keeps while it answers
pub mod Keeping
-- row.rt: at most one plan of schedules fits prices
pub mod Fitting
-- row.rt: what jobs added up that were dealt each unit once
pub mod Dealt
-- row.rt, rows.rt: jobs after a deal, and what they added up
pub mod JobLaws
-- rows.rt, answerer.rt: a run row by row
pub mod RunLaws
-- rows.rt: the prices that follow rows
pub mod Following
-- The lemmas that answers cite.
pub mod Lemmas
