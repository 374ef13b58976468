pub mod Orders
pub mod Parts
pub mod Reaches
