pub mod Window
pub mod Laws
pub mod Cells
