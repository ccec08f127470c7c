pub mod Length
pub mod Lasting
pub mod Readable
pub mod Laws
pub mod Shows
