pub mod Steps
pub mod Laws
pub mod Spelling
pub mod Composing
