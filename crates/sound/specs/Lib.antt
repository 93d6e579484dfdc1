pub mod Held
pub mod Decide
