pub mod Shapes
pub mod Premises
pub mod Tables
