pub mod Cutting
pub mod Running
pub mod Standing
pub mod Named
pub mod Loop
