pub mod Copies
pub mod Kept
pub mod Sound
pub mod Outputs
