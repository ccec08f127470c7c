pub mod Answered
pub mod HalfSteps
pub mod Laws
