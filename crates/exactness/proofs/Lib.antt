pub mod QueryLevels
pub mod Costs
pub mod RoadArcs
pub mod Borders
pub mod SearchArcs
pub mod RoadsToSearch
pub mod SearchToRoads
