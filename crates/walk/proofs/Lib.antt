pub mod Contexts
pub mod Steps
pub mod Closing
pub mod Facts
pub mod Walks
pub mod Noted
pub mod Listings
