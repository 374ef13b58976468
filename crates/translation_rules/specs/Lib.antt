pub mod Templates
pub mod Output
pub mod Bytes
pub mod Check
