pub mod Tests
pub mod Findings
pub mod Steps
pub mod Laws
