pub mod Closures
pub mod Layers
pub mod Tables
pub mod Coherence
