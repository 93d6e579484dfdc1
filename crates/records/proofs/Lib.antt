pub mod Assembled
pub mod Calls
