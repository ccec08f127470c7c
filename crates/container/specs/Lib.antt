pub mod Head
pub mod Text
pub mod Layout
pub mod TextLaws
pub mod TextForm
pub mod Laws
pub mod ByNumber
