pub mod Bounds
pub mod Within
