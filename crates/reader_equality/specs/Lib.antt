pub mod Tables
pub mod Least
pub mod Keys
pub mod Shapes
