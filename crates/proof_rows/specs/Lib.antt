pub mod Paths
pub mod Forms
pub mod Tables
pub mod Grown
