pub mod Tune
pub mod Laws
