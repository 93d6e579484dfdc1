pub mod Bounds
pub mod Arrivals
pub mod Entries
pub mod Lawful
