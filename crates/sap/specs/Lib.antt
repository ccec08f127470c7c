pub mod FirstLine
pub mod Answers
pub mod Acceptance
pub mod Laws
