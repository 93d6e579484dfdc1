pub mod Told
pub mod Claims
pub mod Sizes
pub mod Steps
pub mod Openings
pub mod Worked
