pub mod Wholes
pub mod Members
pub mod Nodes
