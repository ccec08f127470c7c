pub mod Counting
pub mod Measures
pub mod Limits
