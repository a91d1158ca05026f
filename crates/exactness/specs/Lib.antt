pub mod Exact
pub mod Steps
