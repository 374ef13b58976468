pub mod Walked
pub mod Statements
