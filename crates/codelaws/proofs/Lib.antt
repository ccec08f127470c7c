pub mod Refused
pub mod RefusedPairs
pub mod Decoding
pub mod Decoded
pub mod Sizes
pub mod Coding
pub mod Laws
