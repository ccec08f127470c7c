pub mod Reading
pub mod Writing
pub mod Preferred
pub mod Laws
