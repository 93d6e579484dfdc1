pub mod Reasons
pub mod Entries
pub mod Explaining
pub mod Stages
pub mod Decided
pub mod TrueKind
pub mod Loads
