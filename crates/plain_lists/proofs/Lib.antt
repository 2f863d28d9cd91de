-- The names from elsewhere that the proofs here cite.
pub mod Common
-- products and sums of whole numbers
pub mod IntLaws
-- sums and products within bounds fit their types
pub mod SignedLaws
-- lists, and sums over them, item by item
pub mod ListLaws
