pub mod Values
pub mod Ends
