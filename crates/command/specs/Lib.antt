pub mod Others
pub mod Pair
pub mod RowLaws
