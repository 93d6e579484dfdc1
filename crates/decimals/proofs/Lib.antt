pub mod Digits
pub mod Storing
