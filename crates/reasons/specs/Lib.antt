pub mod Phrases
pub mod Laws
