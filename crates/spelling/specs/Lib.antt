pub mod Counts
pub mod Signs
