pub mod Proves
pub mod TypedTrees
pub mod LL
pub mod Refused
pub mod Statements
