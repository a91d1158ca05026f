pub mod Theorems
pub mod Example
pub mod Steps
