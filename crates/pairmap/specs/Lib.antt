pub mod Pairs
pub mod Linear
