pub mod Translates
pub mod Statements
pub mod Accepted
pub mod Premises
pub mod Length
pub mod Theorems
