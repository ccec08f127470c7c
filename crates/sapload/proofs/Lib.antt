pub mod Memory
pub mod Outcomes
