pub mod Bits
pub mod Tests
pub mod Members
pub mod Steps
