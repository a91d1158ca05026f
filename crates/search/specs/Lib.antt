pub mod Marks
pub mod Waiting
pub mod Found
pub mod Progress
pub mod Turns
pub mod Runs
