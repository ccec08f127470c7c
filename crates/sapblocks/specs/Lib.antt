pub mod Blocks
pub mod Answers
pub mod Laws
pub mod Example
