pub mod Outcomes
pub mod CutOff
