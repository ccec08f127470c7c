pub mod Speed
pub mod Laws
