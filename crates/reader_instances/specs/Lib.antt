pub mod Instances
pub mod Signatures
