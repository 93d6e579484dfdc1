pub mod Told
pub mod Decided
pub mod Alike
pub mod WrittenBack
pub mod Worded
