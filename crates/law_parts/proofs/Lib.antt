-- The names from elsewhere that the proofs here cite.
pub mod Common
-- ---- src/cases.rt and src/prices.rt
-- the names from elsewhere that their proofs cite
pub mod ReaderNames
-- what tests that passed say
pub mod Passed
-- what a case file is read as is within the limits of a case
pub mod Within
-- what a string says is UTF-8
pub mod Strings
-- the keys among tokens are UTF-8
pub mod Keys
-- so are the names in a value
pub mod Values
-- and those of a case
pub mod CaseReading
-- what is read of a value, in plain words
pub mod PlainLaws
-- ---- src/board.rt
-- each call of a caller keeps a history legal, what each answer of a post says, and that an answer for a task that is
-- held is taken
pub mod Calls
-- halts change nothing
pub mod Halts
-- the machine's calls and the legal next events are one: what a call appends is legal, and each legal event is what a
-- call appends
pub mod Machine
-- rounds of one caller: between two rounds a claim is given or the board has finished, and the answer of a task that
-- was given is taken
pub mod OneCaller
-- how many events a legal history has: a task is claimed at most once and posted at most once, and a caller halts at
-- most once
pub mod Tallies
-- the numbers of a board of rounds in words: which proposals are open for work, and when all of them are closed
pub mod Words
-- ---- src/bounds.rt
-- a row's plane is nowhere below the dual
pub mod Subgradients
-- a weighted mean of planes bounds the dual over a box
pub mod Mean
-- the centre stands in its box
pub mod Box
-- what the bound of the best range says
pub mod BestLaws
-- the rows of a run are answered, and their prices are within the limits
pub mod RunRows
-- answered rows are far from the limits of their types
pub mod Sizes
-- what renewable units and bids earn at best is at most what their best schedules earn
pub mod Flats
-- what a mixture's entries earn is at most what best schedules earn
pub mod Shares
-- no prices in the box have a dual value above the bound by a mixture
pub mod Holds
-- ---- src/audit.rt
-- facts of each item of lists
pub mod Items
-- the rows of a run are within the bounds of reading
pub mod Rows
-- the lines of units are within them
pub mod Lines
-- a right report is within them
pub mod Reports
-- ---- src/budget.rt
-- a longer run begins with a shorter one
pub mod Fronts
-- the greatest value of a longer run
pub mod Chosen
