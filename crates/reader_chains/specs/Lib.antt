pub mod Outcomes
pub mod Parts
pub mod Shapes
pub mod Chains
