pub mod Held
pub mod After
pub mod Going
