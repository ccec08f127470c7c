pub mod Header
pub mod Answers
pub mod Acceptance
pub mod Speed
pub mod Laws
