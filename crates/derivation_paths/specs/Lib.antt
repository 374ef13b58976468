pub mod Paths
pub mod Tables
