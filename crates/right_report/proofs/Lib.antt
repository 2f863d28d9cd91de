-- The names from elsewhere that the proofs here cite.
pub mod Common
-- ---- of the record of a finished board
-- laws.rt: lists of lines that are made of names and numbers
pub mod UnitLines
-- laws.rt: where there is a row, one is chosen
pub mod ChosenRow
-- laws.rt: what the record of a finished board tells of its chosen row
mod Records
-- choice.rt: the number and the value of the chosen row
mod Choices
-- ---- at most one is right
-- laws.rt: a right report has the form of a report
mod RightForm
-- laws.rt: at most one list of rows is a run
mod OneRun
-- laws.rt: at most one report is right
mod OneReport
-- side.rt, laws.rt: the sides of `hull fixed`
mod Sides
-- ---- one is right: of any kind of item
-- what is made of parts that are decided
mod Deciding
-- lists of all items, of all lists and of all numbers up to one
mod Listing
-- the first in an order among the items of a list that pass
mod Choosing
-- ---- one is right: schedules
-- whether a schedule is feasible is decided
mod Feasible
-- how large the numbers of a feasible schedule can be
mod Limits
-- laws.rt: each feasible schedule is one of finitely many, so one of the best comes first
mod ResponsesExist
-- ---- one is right: runs and reports
-- laws.rt: prices over the horizon have a dual value, and there is a row at those that follow any rows
mod RowsExist
-- laws.rt: row after row, up to the budget or a settled one
mod RunsExist
-- a line for each unit
mod LinesExist
-- laws.rt: the report of a run
mod ReportsExist
-- The lemmas that answers cite.
pub mod Lemmas
