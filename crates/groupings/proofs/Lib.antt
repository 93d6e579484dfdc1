pub mod Appearance
pub mod InOrder
