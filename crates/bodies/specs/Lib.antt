pub mod Voice
pub mod Bodies
pub mod Playing
pub mod Order
pub mod Faithful
pub mod OnePass
pub mod Places
pub mod Example
