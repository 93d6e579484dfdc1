pub mod Turns
pub mod Ahead
pub mod Exact
pub mod Phases
pub mod Free
pub mod Falling
pub mod Known
