pub mod Unnumbered
pub mod Queued
pub mod Searching
pub mod Passing
pub mod Starting
pub mod Along
