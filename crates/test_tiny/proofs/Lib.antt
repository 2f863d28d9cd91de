-- The names from elsewhere that the proofs here cite.
pub mod Common
-- ---- src/feasible.rt, src/commitment.rt and src/dispatch.rt
-- a schedule is feasible exactly where each period keeps the rules
pub mod FeasibleLaws
-- ---- src/envelope.rt and src/earnings.rt
-- products, sums and least ones of numbers within bounds
pub mod BoundLaws
-- the least line as a fold over the points
pub mod EnvelopeSteps
-- earnings are the sum of what each period earns, and a feasible schedule gives no more than the greatest power
pub mod EarningsLaws
-- ---- src/order.rt and src/trying.rt
-- what the next list is: the places before the first that isn't at its last item begin again, and that one is one more
pub mod StepLaws
-- the count of the schedules that come after one falls along the order for ties, and no two have the same
pub mod CountLaws
-- what is kept while schedules are tried, and that at the end it is the least of the best
pub mod TryLaws
-- The lemmas that answers cite.
pub mod Lemmas
