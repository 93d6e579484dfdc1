pub mod Gathered
