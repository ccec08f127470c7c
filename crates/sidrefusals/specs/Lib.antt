pub mod HeaderTests
pub mod Pages
pub mod PayloadTests
