pub mod Checks
pub mod Chains
pub mod EdgeChains
pub mod LoopChains
pub mod Nesting
pub mod Headers
