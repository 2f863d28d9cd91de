-- The names from elsewhere that the proofs here cite.
pub mod Common
-- flat lists that begin alike, and those of bids whose first periods have the same blocks
pub mod Alike
-- lists and units that were compared part by part
pub mod AsOne
-- how long the flat lists of a bid's blocks are
pub mod Numbers
-- in a legal history each answer fits the prices of its proposal
pub mod Answered
-- the laws that a crate goes by that keeps a board in lists of its own
pub mod BoardLaws
-- what each answer of a claim says
pub mod ClaimWords
-- tests over ranges, and how far from the front on a test passes
pub mod Fronts
-- who holds and who posted a task in a legal history, and what a claim that is given tells
pub mod Held
-- what is read off posts stays where posts are added: rows, prices, and what is open
pub mod PostsKept
-- what the answer of a post that is taken tells
pub mod Machine
-- the first task that isn't held
pub mod NextTask
-- what one more row opens
pub mod Opens
-- the board's own tasks: prices and units over the horizon, and what a post whose task nowhere differs from the
-- board's own tells
pub mod OwnTasks
-- how large the totals, the earnings and the value of a proposal can be, whether all of its answers are there or not;
-- and that no row's value is above the cost of a feasible plan
pub mod RowBounds
-- the rows of a legal history are right, and where it is finished they are the whole run
pub mod RowLaws
-- the flat list of a task tells where it ends, so two that nowhere differ as far as both go are one
pub mod SameTask
-- a finished history stays finished
pub mod Stays
-- running totals: one more answer adds what it gives and earns to the totals of its proposal, since the missing
-- answer gives and earns nothing. So totals that run while answers come in are those of the row at its closing
pub mod Totals
-- how large the earnings of one unit's feasible schedule can be, and what a schedule that is missing gives
pub mod UnitBounds
-- the answers of a store, and one of them written in place
pub mod Answers
-- rows kept as runs
pub mod RowRuns
-- a table with one more row written
pub mod Tables
-- The lemmas that answers cite.
pub mod Lemmas
