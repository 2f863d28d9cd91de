-- what holds of every run
pub mod Laws
-- what printed texts tell
pub mod SettledTexts
pub mod SearchTexts
-- what exists
pub mod Existence
