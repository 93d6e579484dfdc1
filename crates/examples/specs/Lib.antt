pub mod Problems
pub mod Claims
pub mod Marks
pub mod Tests
