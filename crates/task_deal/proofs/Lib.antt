-- The names from elsewhere that the proofs here cite.
pub mod Common
-- ---- of any list
-- sums over lists
pub mod Sums
-- places of lists
pub mod Places
-- ---- src/seat.rt, src/pour.rt, src/apart.rt, src/open.rt, src/settle.rt and src/drain.rt
-- each move keeps the rule of the queues
pub mod Moves
-- ---- src/seat.rt
-- what each way to find a number gains
pub mod Gaining
-- a seat stays at its queues
pub mod Seating
-- ---- src/member.rt and src/drain.rt
-- what a job has run
pub mod Running
-- a worker's balance
pub mod Working
-- ---- src/open.rt
-- deques are opened, and passes split off
pub mod Opening
-- ---- src/settle.rt
-- passes go back to their deques
pub mod Settling
-- ---- src/drain.rt
-- one job runs what a queue still has
pub mod Draining
-- the accounts of all queues and jobs while the first job runs the rest
pub mod Ledgers
-- ---- src/apart.rt and src/deal.rt
-- lists the other way round
pub mod Backs
-- two lists place by place
pub mod Zips
-- the accounts of all queues and jobs after the threads
pub mod Together
-- ---- src/law.rt
-- lists of the same numbers in another order
pub mod Orders
-- each number was run once
pub mod Once
-- The lemmas that answers cite.
pub mod Lemmas
