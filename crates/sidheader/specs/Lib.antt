pub mod Fields
pub mod Payload
