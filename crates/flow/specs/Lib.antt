pub mod Laws
pub mod Rounds
pub mod Starts
