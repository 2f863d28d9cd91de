pub mod Faults
pub mod Tables
pub mod Kept
pub mod PricesFiles
pub mod Laws
