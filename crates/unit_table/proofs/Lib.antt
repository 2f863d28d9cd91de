-- The names from elsewhere that the proofs here cite.
pub mod Common
-- what a spell begins with, by the rows that it is read from, and a stop in the first period
pub mod BeginLaws
-- the table as far as it is within the limits: what is above them can't become the answer
pub mod LimitLaws
-- a list of running spells, and one of them written
pub mod LiveLaws
-- how many entries of a log a period takes at most
pub mod LogLaws
-- the ends that the next start may follow, as a period of the table asks for them
pub mod OriginLaws
-- a period of the table, from its running spells
pub mod PeriodLaws
-- what the rules of a step or a dispatch say of the range of a period, and what that says of a limit
pub mod RangeLaws
-- the list of the running spells that are on: one more, some fewer, and a loop over it
pub mod RosterLaws
-- the table row by row: a period more, and all periods
pub mod RowByRowLaws
-- what is read off rows of the table
pub mod RowLaws
-- all running spells over a period, one after the other
pub mod RunAllLaws
-- a row of the table, running spell by running spell
pub mod RunningSpellRowLaws
-- a running spell that stands for a run goes on standing for it: a period more, a start that isn't begun, a spell
-- that goes
pub mod StandInLaws
-- a running spell begun, and none
pub mod StartLaws
-- sums from a place to a place
pub mod SumLaws
-- what the running spells left for backtracking from each row
pub mod BacktrackLaws
-- The lemmas that answers cite.
pub mod Lemmas
