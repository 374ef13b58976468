pub mod Signs
pub mod Table
pub mod Spelling
pub mod Typed
pub mod WellFormed
pub mod Refused
pub mod Stops
