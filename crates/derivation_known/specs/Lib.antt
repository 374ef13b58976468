pub mod Bits
pub mod Held
pub mod Included
pub mod Known
