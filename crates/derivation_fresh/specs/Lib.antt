pub mod Fresh
pub mod Tops
