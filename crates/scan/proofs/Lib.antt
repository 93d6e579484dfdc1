pub mod Functions
pub mod Reading
