pub mod Keeping
pub mod Tallies
pub mod Layering
pub mod UpTo
