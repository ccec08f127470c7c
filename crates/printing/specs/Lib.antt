pub mod Digits
pub mod Placing
pub mod Writing
