pub mod Exits
pub mod Following
