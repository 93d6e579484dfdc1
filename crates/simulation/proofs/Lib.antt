pub mod Pairs
pub mod Costs
pub mod Visits
pub mod Few
