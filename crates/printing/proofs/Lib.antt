pub mod Decimal
pub mod Printed
pub mod Room
pub mod Signed
pub mod Taken
