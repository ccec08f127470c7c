pub mod Places
pub mod Listed
pub mod Laws
