pub mod Marked
pub mod Shut
pub mod Readings
