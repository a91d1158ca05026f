pub mod Members
pub mod Proper
pub mod Giving
pub mod Coming
