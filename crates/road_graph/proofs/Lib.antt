pub mod Giving
pub mod Onward
