pub mod Graphs
pub mod Stages
