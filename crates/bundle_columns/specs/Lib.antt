-- the mixtures that are kept
pub mod Mixing
-- entries with other weights and schedules
pub mod Weights
-- what can be copied into room that is there
pub mod Copies
-- the entries that are told
pub mod Written
-- the columns of all thermal units
pub mod Pools
