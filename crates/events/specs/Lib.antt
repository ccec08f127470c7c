pub mod Listing
pub mod Laws
pub mod Example
