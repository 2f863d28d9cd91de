-- The names from elsewhere that the proofs here cite.
pub mod Common
-- unit_answer.rt, case_laws.rt: the unit of a number
pub mod Units
-- earn.rt, case_laws.rt: what all units of a case earn at best
pub mod TopLaws
-- case_bench.rt: the most cost points of its units
pub mod MostPoints
-- what a spell writes, and what stays
pub mod BackLaws
-- lists compared from the end, and the order for ties period by period
pub mod BackwardOrder
-- what a bench is made for stays
pub mod BenchLaws
-- what backtracking has written from the least end is a best schedule
pub mod BestLaws
-- spells and times off, one after another, make a feasible schedule, whose cost is the sum of theirs
pub mod BuildLaws
-- the commitment rules hold exactly where each step keeps them
pub mod CommitLaws
-- what a schedule earns is what it costs, period by period, turned round
pub mod CostLaws
-- the least of the ends after which the unit may be off to the last period
pub mod EndLaws
-- one spell of backtracking, where the rows are those of the table as far as they are within the limits
pub mod LimitBackLaws
-- the rows and the ends as far as they are within the limits
pub mod LimitLaws
-- every feasible schedule is a list of spells
pub mod ListLaws
-- a place of a list that a spell left
pub mod NoteLaws
-- least times on and off: by runs, as the rules have them, and by single steps
pub mod RunLaws
-- the run that a period of a schedule is in, and what the schedule costs up to it: no less than the tables say
pub mod ShapeLaws
-- runs of on periods and times off of a schedule, by single steps: their dispatch, costs and times
pub mod SpellLaws
-- of all schedules that cost the same, what backtracking writes is the first
pub mod TieLaws
-- The lemmas that answers cite.
pub mod Lemmas
