pub mod CellLaws
pub mod Seen
pub mod Turn
pub mod Walk
