pub mod Table
pub mod Agrees
