pub mod Frames
pub mod Links
pub mod Pushed
