pub mod Statements
pub mod Rows
pub mod HalfSteps
