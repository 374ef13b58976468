pub mod Reach
pub mod Reaches
pub mod Filled
