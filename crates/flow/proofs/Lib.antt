pub mod Begins
pub mod Edges
pub mod Reached
pub mod Visits
pub mod Sweeps
