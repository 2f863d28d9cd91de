pub mod Drawn
pub mod Grown
pub mod Made
pub mod Sizes
pub mod Words
