pub mod Ends
pub mod Limits
pub mod NetCosts
pub mod Origins
pub mod Rows
pub mod Spells
pub mod Nets
