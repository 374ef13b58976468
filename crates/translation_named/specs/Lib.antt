pub mod Cells
pub mod Blocks
pub mod Addresses
pub mod Counts
pub mod Once
