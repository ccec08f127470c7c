pub mod Sums
pub mod Small
