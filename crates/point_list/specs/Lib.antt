pub mod Breaks
pub mod Shown
