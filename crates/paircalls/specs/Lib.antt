pub mod Written
pub mod HalfSteps
pub mod Statements
