pub mod Filled
pub mod Free
pub mod Filling
