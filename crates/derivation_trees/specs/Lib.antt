pub mod Erased
pub mod Keys
pub mod Makers
pub mod Table
pub mod Parts
pub mod Shapes
