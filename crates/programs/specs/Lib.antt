pub mod Names
pub mod Enough
