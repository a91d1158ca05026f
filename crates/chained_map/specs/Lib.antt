pub mod Meaning
pub mod Opened
pub mod Marks
pub mod Closed
pub mod Chained
pub mod Meant
pub mod Coherence
