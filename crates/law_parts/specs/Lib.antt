-- what holds of the cases that files are
pub mod CaseLaws
-- what a file of prices is read as
pub mod PlainPrices
pub mod PriceLaws
-- the history of a board
pub mod BoardLaws
pub mod Counts
pub mod OneCaller
pub mod Words
-- the bound by rows, and by a mixture
pub mod BoundLaws
pub mod MixtureLaws
-- what an audit accepts
pub mod AuditLaws
-- two runs of a case
pub mod BudgetLaws
