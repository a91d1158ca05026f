pub mod Digraphs
pub mod Least
pub mod Cutting
pub mod Computing
pub mod Arcs
