pub mod Against
pub mod Laws
