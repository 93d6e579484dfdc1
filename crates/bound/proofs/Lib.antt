pub mod Stages
pub mod Prices
pub mod Decided
pub mod Theorems
pub mod VisitPrices
