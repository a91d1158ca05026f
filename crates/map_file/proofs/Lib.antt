pub mod Passed
pub mod Walks
pub mod Unmet
