pub mod Answers
pub mod Apart
pub mod Filling
