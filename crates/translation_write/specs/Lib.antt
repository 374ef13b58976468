pub mod Put
pub mod Blocks
pub mod Nodes
pub mod Copies
