-- The names from elsewhere that the proofs here cite.
pub mod Common
-- what holds of each view, and of each two, after one is changed
pub mod Views
-- part 1 of the rule after each kind of step: who waits
pub mod TicketSteps
-- part 2: where the board is
pub mod SlotSteps
-- part 3: the history, and what the seats have seen of it
pub mod HistorySteps
-- part 4: the callers
pub mod CallerSteps
-- each step keeps the whole rule, and what it tells
pub mod Steps
-- one call, put together of its steps, and that it makes at most one event
pub mod WholeCalls
-- the rule at the start
pub mod Begins
-- what is left when the owner's seat alone is out
pub mod Ends
-- the list of callers whose seats are out
pub mod Outs
-- a split keeps the rule
pub mod Splits
-- a join keeps the rule, and what the read after it tells
pub mod Joins
-- a call that changes nothing was answered at what is then seen
pub mod Unmoved
-- The lemmas that answers cite.
pub mod Lemmas
