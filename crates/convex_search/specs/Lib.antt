-- what a search finds
pub mod FoundPrices
-- what a search has in hand
pub mod Searching
-- the master problem of a case
pub mod Starting
