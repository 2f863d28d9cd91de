pub mod Sites
pub mod Forms
pub mod Lists
pub mod Kept
