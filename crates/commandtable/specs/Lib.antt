pub mod Patterns
pub mod Codes
pub mod Numbering
