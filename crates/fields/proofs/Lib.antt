pub mod Rows
pub mod Laws
pub mod Editions
pub mod Steps
pub mod OneField
