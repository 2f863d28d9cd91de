pub mod Faults
pub mod Tables
pub mod Kept
pub mod Views
pub mod MixtureFiles
pub mod Laws
