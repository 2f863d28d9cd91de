-- The names from elsewhere that the proofs here cite.
pub mod Common
-- one more round keeps what rounds are
pub mod Advances
-- the first greatest of the closed proposals, where one proposal is changed
pub mod Bests
-- what a claim answers, and that the lists go on with it
pub mod Claims
-- entries and events, with one more of each
pub mod Entries
-- the flat list of a task isn't long, and a walk along two of them finds where they differ, if they do
pub mod FlatLists
-- how many proposals are closed and how many are open, and the answers of those that are closed
pub mod Fronts
-- a caller's first halt
pub mod Halts
-- what a board holds: its setup, its events and its lists
pub mod Inner
-- numbers of tasks, lists over ranges, and the first of two that is there
pub mod Lists
-- what closing and opening a proposal leaves of a ledger
pub mod LedgerSteps
-- the ledger with the opening proposals
pub mod Opened
-- the events of a board whose store has one more answer
pub mod PostEvents
-- the lists of a board with one more post
pub mod PostLists
-- the rounds of a board with one more post
pub mod PostRounds
-- the totals of a ledger with one more answer
pub mod PostSums
-- why a post is refused, and what holds where it isn't
pub mod Refused
-- rows as proposals, one of them written
pub mod Rows
-- a board without events
pub mod Starts
-- what holds of a post that isn't refused
pub mod Takes
-- numbers of a board and their limits
pub mod Numbers
-- The lemmas that answers cite.
pub mod Lemmas
