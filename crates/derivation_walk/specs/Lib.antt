pub mod Walked
pub mod Turns
