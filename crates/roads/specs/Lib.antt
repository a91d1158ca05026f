pub mod Slots
pub mod Faults
pub mod Words
pub mod RoadLists
pub mod Networks
