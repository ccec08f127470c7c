pub mod Kinds
pub mod Bytes
pub mod Laws
pub mod Plain
