pub mod References
pub mod Rows
pub mod Items
