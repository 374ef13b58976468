pub mod Bounds
pub mod ReadingBounds
pub mod WalkBounds
pub mod AnswerBounds
