pub mod Progress
pub mod Put
