pub mod Noting
pub mod Written
