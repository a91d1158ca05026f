pub mod Layout
pub mod Records
pub mod Checks
pub mod Chains
