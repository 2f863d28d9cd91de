pub mod Plain
pub mod Bounds
pub mod Faults
pub mod Differences
pub mod Laws
pub mod Words
pub mod LineForms
pub mod Lines
