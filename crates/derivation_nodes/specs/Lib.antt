pub mod Kept
pub mod Nodes
pub mod Premised
pub mod Rooms
