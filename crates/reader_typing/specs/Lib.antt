pub mod Applications
pub mod Records
