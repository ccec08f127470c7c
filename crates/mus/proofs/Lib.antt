pub mod Outcomes
pub mod Accepted
pub mod Asked
pub mod ByNumber
