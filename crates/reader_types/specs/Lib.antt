pub mod SetsAndPairs
pub mod Types
