pub mod Symbols
pub mod NameKeys
pub mod Room
pub mod PlainBytes
pub mod Plain
pub mod Taken
