pub mod Judging
pub mod Laws
pub mod Kinds
pub mod CutOff
