pub mod Parts
pub mod Equations
pub mod Growth
pub mod Stores
pub mod Progress
pub mod Whole
