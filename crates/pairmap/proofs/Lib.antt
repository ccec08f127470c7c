pub mod Within
pub mod Joined
