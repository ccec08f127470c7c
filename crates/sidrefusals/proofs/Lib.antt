pub mod Tests
pub mod Pages
