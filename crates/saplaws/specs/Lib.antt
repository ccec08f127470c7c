pub mod Unplaced
pub mod Exchange
pub mod Files
pub mod Texts
pub mod Outcomes
pub mod Stands
pub mod Example
