pub mod WalkedLaws
pub mod Faulty
pub mod BeforeWalk
pub mod Theorems
