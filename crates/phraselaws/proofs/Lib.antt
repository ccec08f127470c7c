pub mod Pairs
pub mod Files
pub mod Accepted
