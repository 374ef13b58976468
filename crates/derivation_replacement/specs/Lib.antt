pub mod Depth
pub mod Last
pub mod Replaced
pub mod Settled
