pub mod Opening
pub mod Starts
pub mod Totals
pub mod Moves
pub mod Sizes
pub mod Firsts
