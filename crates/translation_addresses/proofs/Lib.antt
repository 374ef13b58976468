pub mod Sizes
pub mod Addresses
