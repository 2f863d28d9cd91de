pub mod Lending
pub mod Ranges
pub mod Reserved
pub mod Sums
