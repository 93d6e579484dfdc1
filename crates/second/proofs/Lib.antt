pub mod Outer
pub mod Flags
pub mod Entries
