pub mod Passed
pub mod Search
pub mod Lawful
pub mod Tables
pub mod Reading
pub mod Means
pub mod Examples
pub mod Drawn
