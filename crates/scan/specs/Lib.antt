pub mod Answers
pub mod Functions
