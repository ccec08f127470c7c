pub mod Lists
pub mod Bounds
pub mod Statements
