pub mod Numbers
pub mod Parts
pub mod Laws
pub mod Entries
