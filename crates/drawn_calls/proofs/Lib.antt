pub mod Callees
pub mod Last
pub mod Calls
pub mod InPlace
