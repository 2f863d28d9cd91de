-- The names from elsewhere that the proofs here cite.
pub mod Common
-- ---- src/step.rt
-- the terms of a step stay within the limits of a shape
pub mod BoundLaws
-- functions with the same values, and the range of a step as it is stored
pub mod SameLaws
-- ---- src/costs.rt
-- one more cost among those by last period
pub mod SpellEntryLaws
-- what calls on shapes that came and went leave of the others
pub mod SpellFrameLaws
-- the cells of a pass
pub mod SizeLaws
-- the function before a spell, and the whole way from there
pub mod StartLaws
-- ---- src/best.rt
-- the powers that one is chosen from, and what is chosen
pub mod ChoiceLaws
-- one period of backtracking
pub mod PeriodLaws
-- ---- src/spells.rt
-- what is read off rows of two tables
pub mod RowLaws
-- the spells from one first period on, as far as the window goes
pub mod SpanLaws
-- the least entry among those after an ever later on period
pub mod EntryLaws
-- the table after the spells from one first period to an ever later last one
pub mod UpdateLaws
-- ---- src/program.rt
-- one more first period in the table
pub mod TableLaws
-- the table before any start, and with one more first period
pub mod FillLaws
-- what two calls leave of the shapes that were there before
pub mod FrameLaws
-- ---- src/answer.rt and src/laws.rt
-- one spell of backtracking
pub mod BackLaws
-- a row of the whole table, and what backtracking from it needs to know
pub mod RowBackLaws
-- where the table has no end, there is no schedule
pub mod BestLaws
-- The lemmas that answers cite.
pub mod Lemmas
