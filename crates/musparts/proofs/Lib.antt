pub mod Refusals
pub mod Accepted
pub mod Laws
pub mod Named
