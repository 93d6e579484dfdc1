pub mod Facts
pub mod Loops
pub mod Passes
