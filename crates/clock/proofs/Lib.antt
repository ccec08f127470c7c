pub mod Shares
pub mod Exact
