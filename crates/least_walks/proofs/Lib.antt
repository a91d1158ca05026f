pub mod LastExits
pub mod Pigeons
pub mod Leasts
pub mod Listed
pub mod Enough
