pub mod Opened
pub mod Stages
