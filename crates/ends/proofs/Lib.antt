pub mod Between
pub mod Members
