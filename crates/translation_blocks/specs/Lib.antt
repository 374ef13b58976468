pub mod Build
pub mod Indices
pub mod Blocks
pub mod Quantified
