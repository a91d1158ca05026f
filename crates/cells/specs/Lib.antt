pub mod Cells
pub mod RoadGraphs
pub mod Overlay
