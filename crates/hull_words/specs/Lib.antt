pub mod Codes
pub mod Spelling
pub mod WordTexts
pub mod Asked
pub mod Words
pub mod WordPass
