-- The names from elsewhere that the proofs here cite.
pub mod Common
-- forms.rt: numbers that passed their tests are within their limits
pub mod Fits
-- lists.rt, blocks.rt: lists whose items keep an order, one item more at the end
pub mod Ordered
-- blocks.rt: the blocks of a period, and those of each period
pub mod Periods
-- The lemmas that answers cite.
pub mod Lemmas
