pub mod Laws
pub mod Limits
pub mod Live
pub mod Questions
pub mod Rosters
pub mod RunningSpells
pub mod Tables
pub mod Taken
