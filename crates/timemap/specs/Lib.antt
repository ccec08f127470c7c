pub mod Maps
pub mod Small
pub mod Laws
