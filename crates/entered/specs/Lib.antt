pub mod Flags
pub mod Entered
