pub mod Counting
pub mod Values
pub mod Words
