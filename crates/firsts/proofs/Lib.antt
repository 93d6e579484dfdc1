pub mod Outermost
pub mod Second
pub mod Smaller
