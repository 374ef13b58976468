pub mod Records
pub mod Lines
pub mod Parts
pub mod Written
