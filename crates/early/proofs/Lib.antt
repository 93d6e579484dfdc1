pub mod Sizes
pub mod Words
pub mod Told
