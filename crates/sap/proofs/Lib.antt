pub mod First
pub mod Outcomes
