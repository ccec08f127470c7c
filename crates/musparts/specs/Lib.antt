pub mod Lists
pub mod Bounds
pub mod Laws
pub mod LineLaws
pub mod Named
pub mod Statements
