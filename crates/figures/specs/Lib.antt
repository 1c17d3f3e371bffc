pub mod Time
pub mod Answers
pub mod Needs
pub mod Vectors
