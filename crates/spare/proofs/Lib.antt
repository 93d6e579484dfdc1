pub mod Numbers
pub mod Views
pub mod Walks
pub mod Checks
