pub mod Keys
pub mod Makers
pub mod Sequents
pub mod Signs
pub mod Added
