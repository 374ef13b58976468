pub mod Rules
pub mod Check
pub mod RowLaws
pub mod Opened
pub mod Cases
pub mod Spellings
pub mod Traps
pub mod Limits
