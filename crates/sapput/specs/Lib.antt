pub mod Putting
pub mod Laws
