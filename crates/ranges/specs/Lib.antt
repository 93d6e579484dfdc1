pub mod Ranges
pub mod Marks
