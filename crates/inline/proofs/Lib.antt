pub mod Stored
pub mod Built
pub mod Match
