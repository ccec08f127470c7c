pub mod Bumps
pub mod Pitches
pub mod Laws
