pub mod Before
pub mod Table
pub mod Examples
