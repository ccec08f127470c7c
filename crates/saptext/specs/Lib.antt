pub mod Text
pub mod Stated
pub mod Reading
pub mod Laws
