pub mod Headers
pub mod Roots
