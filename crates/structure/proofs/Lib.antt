pub mod Openers
pub mod Singles
pub mod Passes
pub mod Sound
pub mod LetPass
