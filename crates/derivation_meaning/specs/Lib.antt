pub mod Formulas
pub mod Derives
pub mod Derivable
pub mod Refused
pub mod Statements
