pub mod Put
pub mod Placed
pub mod First
