pub mod Tests
pub mod Sums
pub mod Flow
pub mod Held
pub mod Entered
pub mod Sound
pub mod Decide
