pub mod Times
pub mod Turns
pub mod Bounds
