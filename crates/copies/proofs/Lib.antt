pub mod Head
pub mod Vertices
