pub mod Firsts
pub mod Leaving
