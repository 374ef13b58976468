pub mod Order
pub mod OrderLaws
pub mod Listing
pub mod Cases
