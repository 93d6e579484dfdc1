pub mod Fronts
pub mod Slips
