pub mod Slots
pub mod Numbers
