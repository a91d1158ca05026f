pub mod Scales
pub mod Blends
pub mod Loads
pub mod Tariffs
pub mod Totals
pub mod StoppedSums
