pub mod Exchange
pub mod Header
pub mod Outcomes
pub mod Texts
