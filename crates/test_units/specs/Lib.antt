pub mod Entries
pub mod NoEnds
pub mod Rows
