pub mod Erase
pub mod Rules
pub mod Check
pub mod RowLaws
pub mod StartLaws
pub mod Opened
pub mod Traps
pub mod Limits
