pub mod Tables
pub mod Cases
pub mod CaseFiles
pub mod Kept
pub mod Parts
pub mod Laws
