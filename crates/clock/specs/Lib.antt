pub mod Timing
pub mod Lengths
pub mod Times
pub mod Shares
pub mod Settings
pub mod Running
pub mod Laws
pub mod Example
