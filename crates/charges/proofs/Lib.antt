pub mod Sizes
pub mod Answers
pub mod Flags
pub mod Prices
pub mod Changing
pub mod Filling
